use Rattle.std.specs.Vec.Iter.{into_iter_items}
use Rattle.inspections.specs.Views.{AreAdded}
use Rattle.inspections.proofs.viewing.changes_of.Given as goal

-- the operations of the records before those that are left were added
abbrev pub invariant-loop-record : goal.invariant-loop-record
invariant-loop-record l =
    (goal.iterator-loop-record).can_next l.record-iterator ×
    (goal.iterator-loop-record).is_finite l.record-iterator ×
    AreAdded l.fn.records.items (into_iter_items l.record-iterator) l.changes
