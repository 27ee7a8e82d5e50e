use Rattle.std.proofs.Common.{◌≡◌, ℕ, ◌<◌, true}
use Rattle.std.specs.Prelude.{IsTrue, is_some}
use Rattle.base.specs.declared.record_state.RecordState.TheVariants.{Dirty}
use Rattle.base.specs.disk.Disk.{bytes_of}
use Rattle.base.specs.tree.Places.{record_of_strip}
use Rattle.tree_blocks.specs.TreeObjects.{objects_of}
use Rattle.tree_plans.specs.Changes.{state_at}
use Rattle.group_plans.specs.GroupPlans.{objects_with}
use Rattle.group_plans.specs.Prepared.{AreExact, HoldsRecords, KeepsHand, at_hand}
use Rattle.group_plans.proofs.preparing.prepare_strip.Given as goal

abbrev pub invariant-loop-index : goal.invariant-loop-index
invariant-loop-index g l = record {
  size : g.B.SectorDevice.size l.reader ≡ g.B.SectorDevice.size l.fn.reader;
  disk : IsTrue g.B.SectorDevice.keeps_model → g.B.SectorDevice.disk l.reader ≡ g.B.SectorDevice.disk l.fn.reader;
  count : g.B.SectorDevice.refused l.reader ≡ g.B.SectorDevice.refused l.fn.reader;
  extents : l.prepared.extents.now ≡ l.fn.prepared.extents.now;
  below : l.prepared.tree.now ≡ l.fn.prepared.tree.now;
  kept : KeepsHand (at_hand l.fn.prepared.records) (at_hand l.prepared.records);
  ready : (k : ℕ) → k < l.index → state_at l.changes (record_of_strip l.strip k) ≡ Dirty → is_some (at_hand l.prepared.records l.id.0 (record_of_strip l.strip k)) ≡ true;
  exact : IsTrue g.B.SectorDevice.keeps_model → HoldsRecords (bytes_of (g.B.SectorDevice.disk l.fn.reader).now) l.frame (objects_of l.fn.prepared.tree.now) l.id.0 l.strip l.map
      → AreExact (at_hand l.fn.prepared.records) (objects_with l.fn.prepared.extents.now l.fn.prepared.tree.now)
      → AreExact (at_hand l.prepared.records) (objects_with l.fn.prepared.extents.now l.fn.prepared.tree.now);
}
