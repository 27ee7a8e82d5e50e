use Rattle.std.proofs.Common.{◌∙◌, Some, ap, sym}
use Rattle.std.specs.Borrow.{Bor}
use Rattle.transactions.specs.declared.«open».OpenTransaction.{OpenTransaction}
use Rattle.std.specs.Prelude.{option_map}
use Rattle.transactions.specs.Open.{admission_of}
use Rattle.transactions.proofs.OpenOrder.{found_as, seen_as}
use Rattle.transactions.proofs.open.OpenTransactions.find.Goals as goal

pub returns-in_err-key : goal.returns-in_err-key
returns-in_err-key c =
    rw (c.from_residual.ensures, ← c.self.view_is) (found_as c.args.tx.0 c.self.inside.slots c.self.inside.order.items c.deref.result.now c.key_of.result _ c.deref.ensures.value c.key_of.ensures c.in_err-key.was)

pub returns-in_err-found : goal.returns-in_err-found
returns-in_err-found c =
    rw (c.from_residual-in_err-found.ensures, ← c.self.view_is)
    (ap (option_map (λ (t : Bor OpenTransaction). admission_of t.now)) (sym c.in_err-found.was) ∙ seen_as c.get.result ∙ ap (option_map admission_of) c.get.ensures
    ∙ found_as c.args.tx.0 c.self.inside.slots c.self.inside.order.items c.deref.result.now c.key_of.result _ c.deref.ensures.value c.key_of.ensures c.in_ok-key.was)

pub returns : goal.returns
returns c =
    rw (← c.self.view_is)
    (ap (λ (t : OpenTransaction). Some (admission_of t)) c.transaction.ensures ∙ ap (option_map (λ (t : Bor OpenTransaction). admission_of t.now)) (sym c.in_ok-found.was)
    ∙ seen_as c.get.result ∙ ap (option_map admission_of) c.get.ensures
    ∙ found_as c.args.tx.0 c.self.inside.slots c.self.inside.order.items c.deref.result.now c.key_of.result _ c.deref.ensures.value c.key_of.ensures c.in_ok-key.was)
