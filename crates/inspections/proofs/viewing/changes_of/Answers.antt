use Rattle.std.proofs.Common.{◌≡◌, ◌∷◌, length, sym, ◌∙◌}
use Rattle.std.specs.Vec.Iter.{into_iter_items}
use Rattle.std.proofs.lemmas.List.{nil_from_length}
use Rattle.inspections.proofs.Views.{all_added, next_added, next_allowed, none_added}
use Rattle.inspections.proofs.viewing.changes_of.Goals as goal

pub loop-record-init : goal.loop-record-init
loop-record-init c =
    let all : into_iter_items c.into_iter-record-iterator.result ≡ c.args.records.items = c.into_iter-record-iterator.ensures.into_iter_gives.0 in
    (tt, tt, rw all (none_added c.args.records.items c.new-changes.result c.requires c.new-changes.ensures.patches))

pub add_ops-requires : goal.add_ops-requires
add_ops-requires c =
    let step : into_iter_items c.loop-record.record-iterator ≡ c.in-Some.record ∷ into_iter_items c.next.new.self = c.in-Some.ensures.steps.0 in
    rw c.as_slice.ensures (next_allowed c.args.records.items (into_iter_items c.next.new.self) c.in-Some.record c.loop-record.changes (rw step at c.loop-record.invariant.2))

pub loop-record-preserved : goal.loop-record-preserved
loop-record-preserved c =
    let step : into_iter_items c.loop-record.record-iterator ≡ c.in-Some.record ∷ into_iter_items c.next.new.self = c.in-Some.ensures.steps.0 in (
      tt,
      tt,
      next_added c.args.records.items (into_iter_items c.next.new.self) c.in-Some.record c.loop-record.changes c.add_ops.new.changes (rw step at c.loop-record.invariant.2) (rw c.as_slice.ensures at c.in_ok-add_ops.ensures),
    )

pub returns : goal.returns
returns c =
    let whole = c.loop-record.record-iterator.rest.ok.0 in
    let none : length (into_iter_items c.loop-record.record-iterator) ≡ 0 = sym whole ∙ c.in-None.ensures.steps.0 in
    all_added c.args.records.items c.loop-record.changes (rw (nil_from_length (into_iter_items c.loop-record.record-iterator) none) at c.loop-record.invariant.2)
