use Rattle.std.proofs.Common.{◌≡◌, ◌<◌, ℕ}
use Rattle.std.specs.Prelude.{IsTrue}
use Rattle.base.specs.declared.pointer.Pointer.{Pointer}
use Rattle.base.specs.disk.Disk.{bytes_of}
use Rattle.base.specs.tree.Places.{Place, strip_number}
use Rattle.tree_blocks.specs.ReadPointers.{records_among}
use Rattle.group_plans.specs.OldMaps.{AreRecordsAt, AreStripsRead, HoldsStripsOf}
use Rattle.group_plans.proofs.old_maps.read_strips.Given as goal

-- the device is as it was, and so many strips were gone over
abbrev pub invariant-loop-strip : goal.invariant-loop-strip
invariant-loop-strip g l = record {
  size : g.B.SectorDevice.size l.reader ≡ g.B.SectorDevice.size l.fn.reader;
  disk : IsTrue g.B.SectorDevice.keeps_model → g.B.SectorDevice.disk l.reader ≡ g.B.SectorDevice.disk l.fn.reader;
  count : g.B.SectorDevice.refused l.reader ≡ g.B.SectorDevice.refused l.fn.reader;
  read : AreStripsRead l.frame.blocks l.object l.strip l.indirects l.strips.entries;
  exact : IsTrue g.B.SectorDevice.keeps_model → (pointers : Place → Pointer)
      → HoldsStripsOf (bytes_of (g.B.SectorDevice.disk l.fn.reader).now) l.frame l.object l.indirects pointers
      → (j : ℕ) → j < l.strip → AreRecordsAt pointers (strip_number l.object.id.0 j) (records_among l.strips.entries j);
}
