use Rattle.std.proofs.Common.{◌≡◌, ◌++◌, List, true}
use Rattle.std.specs.Prelude.{IsTrue, is_some}
use Rattle.base.specs.declared.names.ObjectId.{ObjectId}
use Rattle.base.specs.disk.Disk.{bytes_of}
use Rattle.base.specs.kept.PlacedTrees.{HoldsTree}
use Rattle.tree_blocks.specs.TreeObjects.{objects_of}
use Rattle.tree_plans.specs.declared.changes.ObjectChanges.{ObjectChanges}
use Rattle.tree_plans.specs.Parts.{AreReady}
use Rattle.tree_plans.specs.Pointers.{pointers_before}
use Rattle.group_plans.specs.GroupPlans.{objects_with}
use Rattle.group_plans.specs.Prepared.{AreExact, at_hand}
use Rattle.group_plans.proofs.preparing.prepare.Given as goal

abbrev pub invariant-loop-id : goal.invariant-loop-id
invariant-loop-id g l = record {
  can : (goal.iterator-loop-id g).can_next l.id-iterator;
  ends : (goal.iterator-loop-id g).is_finite l.id-iterator;
  size : g.B.SectorDevice.size l.reader ≡ g.B.SectorDevice.size l.fn.reader;
  disk : IsTrue g.B.SectorDevice.keeps_model → g.B.SectorDevice.disk l.reader ≡ g.B.SectorDevice.disk l.fn.reader;
  count : g.B.SectorDevice.refused l.reader ≡ g.B.SectorDevice.refused l.fn.reader;
  extents : l.prepared.extents.now ≡ l.extents;
  below : l.prepared.tree.now ≡ l.source.tree.now;
  done : List (ObjectId × ObjectChanges);
  split : l.objects.entries ≡ done ++ l.id-iterator;
  ready : AreReady (λ n r. is_some (at_hand l.prepared.records n r) ≡ true) done;
  exact : IsTrue g.B.SectorDevice.keeps_model → HoldsTree (bytes_of (g.B.SectorDevice.disk l.fn.reader).now) l.frame (pointers_before l.source) (objects_of l.source.tree.now)
      → AreExact (at_hand l.prepared.records) (objects_with l.extents l.source.tree.now);
}
