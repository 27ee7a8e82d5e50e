use Rattle.std.proofs.Common.{◌+◌, ◌∙◌, ◌++◌, ◌∷◌, [], ap}
use Rattle.transactions.specs.declared.«open».OpenTransaction.{OpenTransaction}
use Rattle.transactions.specs.Open.{admission_of}
use Rattle.transactions.proofs.OpenChanges.{admitted, held_admitted, held_reserved}
use Rattle.transactions.proofs.open.OpenTransactions.admit_tested.Goals as goal

pub invariant_of-self-in_err-reserve-2 : goal.invariant_of-self-in_err-reserve-2
invariant_of-self-in_err-reserve-2 c =
    let inside = c.self.inside in
    held_reserved inside.slots c.reserve-2.new.self inside.order.items c.reserve.new.self.items inside.next (ap (λ s. s.slots) c.reserve-2.ensures.rest_kept) c.in_ok-reserve.ensures.items c.self.invariant

pub invariant_of-self-2 : goal.invariant_of-self-2
invariant_of-self-2 c =
    let key = c.insert_reserved-key in
    let inside = c.self.inside in
    held_admitted inside.slots c.reserve-2.new.self key.new.self inside.order.items c.push_reserved.new.self.items key.result inside.next _ (ap (λ s. s.slots) c.in_ok-reserve-2.ensures.rest_kept) key.ensures.was_vacant key.ensures.updates
    (c.push_reserved.ensures.items ∙ ap (λ l. l ++ key.result ∷ []) c.in_ok-reserve.ensures.items) c.self.invariant
    (ap (λ (t : OpenTransaction). t.tx.0) c.in_ok-opened.ensures) (rw c.in_ok-opened.ensures c.requires.allowed)

pub returns-clause-admitted : goal.returns-clause-admitted
returns-clause-admitted c =
    let key = c.insert_reserved-key in
    let inside = c.self.inside in
    let push = admitted inside.slots c.reserve-2.new.self key.new.self inside.order.items c.push_reserved.new.self.items key.result inside.next _ (ap (λ s. s.slots) c.in_ok-reserve-2.ensures.rest_kept) key.ensures.was_vacant key.ensures.updates
    (c.push_reserved.ensures.items ∙ ap (λ l. l ++ key.result ∷ []) c.in_ok-reserve.ensures.items) c.self.invariant in
    rw (← c.self.view_is, ← ap admission_of c.in_ok-opened.ensures) (λ i. record { transactions = push i; next = inside.next + 1 })
