use Rattle.std.proofs.Common.{◌≡◌, ◌*◌, List, ℕ}
use Rattle.std.specs.Prelude.{IsTrue}
use Rattle.base.specs.declared.pointer.Pointer.{Pointer}
use Rattle.base.specs.disk.Disk.{bytes_of}
use Rattle.base.specs.formats.Limits.{entry_count}
use Rattle.trees.specs.EntryLists.{AreListed, AreRising, NamesDirectories}
use Rattle.trees.proofs.entry_lists.list_directories.Given as goal

-- the device is as it was, and so many directories were listed
abbrev pub invariant-loop-index : goal.invariant-loop-index
invariant-loop-index g l = record {
  size : g.D.SectorDevice.size l.device ≡ g.D.SectorDevice.size l.fn.device;
  disk : IsTrue g.D.SectorDevice.keeps_model → g.D.SectorDevice.disk l.device ≡ g.D.SectorDevice.disk l.fn.device;
  count : g.D.SectorDevice.refused l.device ≡ g.D.SectorDevice.refused l.fn.device;
  rising : AreRising 0 l.list.items (entry_count * l.index);
  listed : IsTrue g.D.SectorDevice.keeps_model → (image : List ℕ) (top : Pointer) → bytes_of (g.D.SectorDevice.disk l.fn.device).now ≡ image
      → NamesDirectories image top l.payload → AreListed image l.frame top l.index l.list.items;
}
