use Rattle.std.proofs.Common.{◌≡◌, ◌+◌, ◌*◌, ◌<◌, ◌≤◌, List, ℕ, length}
use Rattle.std.specs.Prelude.{IsTrue}
use Rattle.base.specs.declared.pointer.Pointer.{Pointer}
use Rattle.base.specs.disk.Disk.{bytes_of}
use Rattle.base.specs.formats.Fields.{pointer_in}
use Rattle.base.specs.tree.Places.{walk_index_of_object}
use Rattle.trees.specs.DamageLists.{AddsDamages}
use Rattle.trees.specs.FreeBlocks.{StripsName, TakesNamed}
use Rattle.tree_blocks.specs.Bytes.{AreBytes}
use Rattle.trees.specs.Loading.{AreLoadedStrips, HasZeroRecord}
use Rattle.object_maps.specs.BlockReads.{Shows}
use Rattle.trees.specs.Noted.{IsNoted}
use Rattle.tree_blocks.specs.Pointers.{strip_in}
use Rattle.trees.specs.Walking.{AreStripsOf}
use Rattle.trees.proofs.walk.Loader.walk_strips.Given as goal

-- the device is as it was, and so many strips were walked
abbrev pub invariant-loop-index : goal.invariant-loop-index
invariant-loop-index g l = record {
  size : g.D.SectorDevice.size l.device ≡ g.D.SectorDevice.size l.fn.device;
  disk : IsTrue g.D.SectorDevice.keeps_model → g.D.SectorDevice.disk l.device ≡ g.D.SectorDevice.disk l.fn.device;
  count : g.D.SectorDevice.refused l.device ≡ g.D.SectorDevice.refused l.fn.device;
  long : length l.object.bytes.value ≡ l.size;
  bytes : AreBytes l.object.bytes.value;
  zeros : (r : ℕ) → 84 * l.index ≤ r → HasZeroRecord r l.object.bytes.value;
  noted : IsNoted l.fn.damages l.damages l.whole;
  taken : IsTrue l.whole → TakesNamed (λ k. StripsName k l.object.strips.value l.index) l.fn.free l.free;
  named : IsTrue l.whole → (j : ℕ) → j < l.index → (strip_in l.object.strips.value j).0 ≡ pointer_in l.payload j;
  listed : IsTrue g.D.SectorDevice.keeps_model → (image : List ℕ) (top : Pointer) → bytes_of (g.D.SectorDevice.disk l.fn.device).now ≡ image
      → AreStripsOf image top l.number l.payload l.size
      → AddsDamages image l.self.frame.now top (walk_index_of_object l.number + 1) (walk_index_of_object l.number + 1 + 85 * l.index) l.fn.damages.list.items l.damages.list.items;
  loaded : (image : List ℕ) → Shows g.D.SectorDevice.keeps_model (g.D.SectorDevice.disk l.fn.device) image → IsTrue l.whole
      → AreLoadedStrips g.D.SectorDevice.keeps_model image l.self.frame.now l.number l.object.strips.value l.object.bytes.value l.index;
}
