use Rattle.std.proofs.Common.{◌≡◌, List, ℕ}
use Rattle.std.specs.Prelude.{IsTrue}
use Rattle.base.specs.declared.pointer.Pointer.{Pointer}
use Rattle.base.specs.disk.Disk.{bytes_of}
use Rattle.trees.specs.DamageLists.{AddsDamages}
use Rattle.trees.specs.Walking.{AreDirectoriesOf, directory_index}
use Rattle.trees.specs.Loaders.{LoadsFrom}
use Rattle.object_maps.specs.BlockReads.{Shows}
use Rattle.trees.specs.Loading.{AreLoadedDirectories}
use Rattle.trees.specs.Noted.{IsNoted}
use Rattle.trees.proofs.walk.Loader.walk_directories.Given as goal

-- the device is as it was, and so many directories were walked
abbrev pub invariant-loop-index : goal.invariant-loop-index
invariant-loop-index g l = record {
  size : g.D.SectorDevice.size l.device ≡ g.D.SectorDevice.size l.fn.device;
  disk : IsTrue g.D.SectorDevice.keeps_model → g.D.SectorDevice.disk l.device ≡ g.D.SectorDevice.disk l.fn.device;
  count : g.D.SectorDevice.refused l.device ≡ g.D.SectorDevice.refused l.fn.device;
  noted : IsNoted l.fn.damages l.damages l.whole;
  listed : IsTrue g.D.SectorDevice.keeps_model → (image : List ℕ) (top : Pointer) → bytes_of (g.D.SectorDevice.disk l.fn.device).now ≡ image
      → AreDirectoriesOf image top l.directories
      → AddsDamages image l.self.frame.now top 1 (directory_index l.index) l.fn.damages.list.items l.damages.list.items;
  loaded : (image : List ℕ) → Shows g.D.SectorDevice.keeps_model (g.D.SectorDevice.disk l.fn.device) image → IsTrue l.whole
      → LoadsFrom 0 l.fn.objects l.objects l.fn.free l.free
      (λ _ after _. AreLoadedDirectories g.D.SectorDevice.keeps_model image l.self.frame.now l.directories l.index after);
}
