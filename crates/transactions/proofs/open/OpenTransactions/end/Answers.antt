use Rattle.std.proofs.Common.{◌∙◌, ap, sym}
use Rattle.std.specs.Prelude.{option_map}
use Rattle.transactions.specs.Open.{admission_of, admissions_at, is_of_name, passes_at}
use Rattle.transactions.proofs.OpenChanges.{admissions-without, all_stay, held_without}
use Rattle.transactions.proofs.OpenOrder.{found_as, found_passes}
use Rattle.transactions.proofs.open.OpenTransactions.end.Goals as goal

pub returns-in_err-key-clause-ended : goal.returns-in_err-key-clause-ended
returns-in_err-key-clause-ended c =
    rw (c.from_residual.ensures, ← c.self.view_is) (found_as c.args.tx.0 c.self.inside.slots c.self.inside.order.items c.deref.result.now c.key_of.result _ c.deref.ensures.value c.key_of.ensures c.in_err-key.was)

pub returns-in_err-key-clause-others : goal.returns-in_err-key-clause-others
returns-in_err-key-clause-others c =
    rw (← c.self.view_is)
    (sym (all_stay c.args.tx.0 (admissions_at c.self.inside.slots c.self.inside.order.items) (sym (found_as c.args.tx.0 c.self.inside.slots c.self.inside.order.items c.deref.result.now c.key_of.result _ c.deref.ensures.value c.key_of.ensures c.in_err-key.was))))

pub invariant_of-self : goal.invariant_of-self
invariant_of-self c =
    let inside = c.self.inside in
    let named = found_passes (passes_at (is_of_name c.args.tx.0) inside.slots) inside.order.items c.in_ok-key.key (sym (rw c.deref.ensures.value at c.key_of.ensures) ∙ c.in_ok-key.was) in
    rw c.remove_named.ensures (held_without c.args.tx.0 inside.slots c.try_remove.new.self c.in_ok-key.key named c.try_remove.ensures.updates inside.order.items inside.next c.self.invariant)

pub returns-clause-ended : goal.returns-clause-ended
returns-clause-ended c =
    rw (← c.self.view_is)
    (ap (option_map admission_of) (c.without_index.ensures ∙ c.try_remove.ensures.value) ∙ found_as c.args.tx.0 c.self.inside.slots c.self.inside.order.items c.deref.result.now c.key_of.result _ c.deref.ensures.value c.key_of.ensures c.in_ok-key.was)

pub returns-clause-others : goal.returns-clause-others
returns-clause-others c =
    let inside = c.self.inside in
    let named = found_passes (passes_at (is_of_name c.args.tx.0) inside.slots) inside.order.items c.in_ok-key.key (sym (rw c.deref.ensures.value at c.key_of.ensures) ∙ c.in_ok-key.was) in
    rw (← c.self.view_is, c.remove_named.ensures) (admissions-without c.args.tx.0 inside.slots c.try_remove.new.self c.in_ok-key.key named c.try_remove.ensures.updates inside.order.items)
