use Rattle.std.proofs.Common.{◌≡◌, ◌+◌, List, ℕ}
use Rattle.std.specs.Prelude.{IsTrue}
use Rattle.base.specs.declared.pointer.Pointer.{Pointer}
use Rattle.base.specs.disk.Disk.{bytes_of}
use Rattle.base.specs.tree.Places.{strip_of, walk_index_of_indirect}
use Rattle.trees.specs.DamageLists.{AddsDamages}
use Rattle.trees.specs.Noted.{IsNoted}
use Rattle.trees.specs.ReadAhead.{IsReadAhead}
use Rattle.trees.specs.Walking.{AreDataOf}
use Rattle.object_maps.specs.BlockReads.{Shows}
use Rattle.trees.specs.Loading.{AreLoadedRecords, KeepsOthers}
use Rattle.trees.proofs.walk.Loader.walk_records.Given as goal

-- the device is as it was, and so many records were walked
abbrev pub invariant-loop-index : goal.invariant-loop-index
invariant-loop-index g l = record {
  size : g.D.SectorDevice.size l.device ≡ g.D.SectorDevice.size l.fn.device;
  disk : IsTrue g.D.SectorDevice.keeps_model → g.D.SectorDevice.disk l.device ≡ g.D.SectorDevice.disk l.fn.device;
  count : g.D.SectorDevice.refused l.device ≡ g.D.SectorDevice.refused l.fn.device;
  ahead : (image : List ℕ) → Shows g.D.SectorDevice.keeps_model (g.D.SectorDevice.disk l.fn.device) image → IsReadAhead g.D.SectorDevice.keeps_model image l.self.frame.now l.ahead;
  kept : KeepsOthers (strip_of l.number) l.fn.bytes.value l.bytes.value;
  noted : IsNoted l.fn.damages l.damages l.whole;
  listed : IsTrue g.D.SectorDevice.keeps_model → (image : List ℕ) (top : Pointer) → bytes_of (g.D.SectorDevice.disk l.fn.device).now ≡ image
      → AreDataOf image top l.number l.payload l.size
      → AddsDamages image l.self.frame.now top (walk_index_of_indirect l.number + 1) (walk_index_of_indirect l.number + 1 + l.index) l.fn.damages.list.items l.damages.list.items;
  loaded : (image : List ℕ) → Shows g.D.SectorDevice.keeps_model (g.D.SectorDevice.disk l.fn.device) image → IsTrue l.whole
      → AreLoadedRecords g.D.SectorDevice.keeps_model image l.self.frame.now l.number l.payload l.bytes.value l.index;
}
