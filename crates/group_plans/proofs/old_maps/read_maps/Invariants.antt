use Rattle.std.proofs.Common.{◌≡◌, ◌++◌, ℕ, List, false}
use Rattle.std.specs.Prelude.{IsTrue, is_some}
use Rattle.base.specs.declared.names.ObjectId.{ObjectId}
use Rattle.base.specs.disk.Disk.{bytes_of}
use Rattle.tree_blocks.specs.TreeObjects.{objects_of}
use Rattle.tree_blocks.specs.Pointers.{pointers_of}
use Rattle.tree_plans.specs.declared.changes.ObjectChanges.{ObjectChanges}
use Rattle.tree_plans.specs.Pointers.{entry_of}
use Rattle.group_plans.specs.GroupPlans.{objects_with}
use Rattle.group_plans.specs.OldMaps.{AreMapsOf, AreMapsOfObjects, AreMapsReadFor, HoldsOwn}
use Rattle.group_plans.proofs.old_maps.read_maps.Given as goal

-- the device is as it was, and the maps of so many objects were read
abbrev pub invariant-loop-id : goal.invariant-loop-id
invariant-loop-id g l = record {
  can : (goal.iterator-loop-id g).can_next l.id-iterator;
  ends : (goal.iterator-loop-id g).is_finite l.id-iterator;
  size : g.B.SectorDevice.size l.reader ≡ g.B.SectorDevice.size l.fn.reader;
  disk : IsTrue g.B.SectorDevice.keeps_model → g.B.SectorDevice.disk l.reader ≡ g.B.SectorDevice.disk l.fn.reader;
  count : g.B.SectorDevice.refused l.reader ≡ g.B.SectorDevice.refused l.fn.reader;
  done : List (ObjectId × ObjectChanges);
  split : l.objects.entries ≡ done ++ l.id-iterator;
  read : AreMapsReadFor (objects_with l.extents l.source.tree.now) done l.maps.entries;
  none : (n : ℕ) → is_some (entry_of done n) ≡ false → is_some (entry_of l.maps.entries n) ≡ false;
  maps : AreMapsOf l.frame.blocks l.source.tree.now (objects_of l.source.tree.now) l.maps.entries;
  exact : IsTrue g.B.SectorDevice.keeps_model → HoldsOwn (bytes_of (g.B.SectorDevice.disk l.fn.reader).now) l.frame l.source.tree.now
      → AreMapsOfObjects (pointers_of l.source.tree.now) l.maps.entries;
}
