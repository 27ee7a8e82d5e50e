use Rattle.std.proofs.Common.{◌≡◌, [], inl, ap, sym, ◌∙◌, length, rules}
use Rattle.std.proofs.lemmas.Bool.{eqb-true}
use Rattle.std.proofs.lemmas.List.{nil_from_length}
use Rattle.object_names.specs.Slots.{name_in, slot_bytes}
use Rattle.object_names.proofs.slot.is_slot.Goals as goal

pub returns-then-is_empty : goal.returns-then-is_empty
returns-then-is_empty c =
    let none : name_in c.args.slot.now ≡ [] =
    sym c.name_in-name.ensures.name ∙ nil_from_length c.name_in-name.result.now (eqb-true (length c.name_in-name.result.now) 0 (sym c.if-is_empty.ensures)) in
    let same : c.args.slot.now ≡ c.slot_of.result = search rules in
    (λ yes. record { spelled = same ∙ c.slot_of.ensures ∙ ap slot_bytes c.name_in-name.ensures.name; name = inl none }, λ is. c.if-is_empty.true)
