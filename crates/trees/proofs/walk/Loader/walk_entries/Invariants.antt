use Rattle.std.proofs.Common.{◌≡◌, ◌+◌, ◌*◌, List, ℕ}
use Rattle.std.specs.Prelude.{IsTrue}
use Rattle.base.specs.declared.pointer.Pointer.{Pointer}
use Rattle.base.specs.disk.Disk.{bytes_of}
use Rattle.trees.specs.DamageLists.{AddsDamages}
use Rattle.trees.specs.Walking.{IsPayloadOf, objects_index}
use Rattle.trees.specs.Loaders.{LoadsFrom}
use Rattle.object_maps.specs.BlockReads.{Shows}
use Rattle.trees.specs.Loading.{AreLoadedEntries}
use Rattle.trees.specs.Noted.{IsNoted}
use Rattle.trees.proofs.walk.Loader.walk_entries.Given as goal

-- the device is as it was, and so many objects of the directory were walked
abbrev pub invariant-loop-index : goal.invariant-loop-index
invariant-loop-index g l = record {
  size : g.D.SectorDevice.size l.device ≡ g.D.SectorDevice.size l.fn.device;
  disk : IsTrue g.D.SectorDevice.keeps_model → g.D.SectorDevice.disk l.device ≡ g.D.SectorDevice.disk l.fn.device;
  count : g.D.SectorDevice.refused l.device ≡ g.D.SectorDevice.refused l.fn.device;
  noted : IsNoted l.fn.damages l.damages l.whole;
  listed : IsTrue g.D.SectorDevice.keeps_model → (image : List ℕ) (top : Pointer) → bytes_of (g.D.SectorDevice.disk l.fn.device).now ≡ image
      → IsPayloadOf image l.self.frame.now top l.directory l.payload
      → AddsDamages image l.self.frame.now top (objects_index l.directory) (objects_index l.directory + 7141 * l.index) l.fn.damages.list.items l.damages.list.items;
  loaded : (image : List ℕ) → Shows g.D.SectorDevice.keeps_model (g.D.SectorDevice.disk l.fn.device) image → IsTrue l.whole
      → LoadsFrom (63 * l.directory) l.fn.objects l.objects l.fn.free l.free
      (AreLoadedEntries g.D.SectorDevice.keeps_model image l.self.frame.now l.directory l.payload l.index);
}
