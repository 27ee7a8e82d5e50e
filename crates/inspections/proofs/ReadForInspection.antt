-- What is examined of a device without a write or a flush is of its image.
use Rattle.std.proofs.Common.{◌≡◌, ℕ, List, length, subst}
use Rattle.std.specs.Prelude.{All, Bool, IsTrue}
use Rattle.base.specs.tree.Mount.{HasPool, IsChainOf}
use Rattle.base.specs.disk.Disk.{Disk, bytes_of}
use Rattle.base.specs.formats.Blocks.{Frame}
use Rattle.base.specs.formats.Chain.{LogPiece}
use Rattle.base.specs.formats.Geometry.{block_count}
use Rattle.base.specs.kept.PlacedTrees.{ArePlaced}
use Rattle.intent_log.specs.Chains.{IsSoundPiece}
use Rattle.tree_blocks.specs.TreeObjects.{objects_of}
use Rattle.tree_blocks.specs.Pointers.{pointers_of}
use Rattle.trees.specs.FreeBlocks.{AreUnnamed}
use Rattle.trees.specs.Examined.{IsLoadedOf}
use Rattle.trees.specs.declared.objects.Loaded.{Loaded}
use Rattle.uberblocks.specs.Slots.{fields_of}
use Rattle.import_replay.specs.ReadPools.{frame_of_size}
use Rattle.import_replay.specs.declared.finding.Found.{Found}
use Rattle.import_replay.proofs.ReadPools.{is_read_pool}
use Rattle.inspections.specs.ReadForInspection.{IsReadFor}

-- the tree as it was loaded in the frame of the active uberblock, with its chain
pub is_read : (keeps : Bool) (image : List ℕ) (disk : Disk) (size : ℕ) (frame : Frame) (found : Found) (l : Loaded) (chain : List LogPiece) → (IsTrue keeps → length image ≡ size) → (IsTrue keeps → bytes_of disk.now ≡ image)
    → (IsTrue keeps → HasPool image (fields_of found.uberblock) found.name) → frame ≡ frame_of_size (fields_of found.uberblock) size
    → IsLoadedOf keeps (bytes_of disk.now) frame found.uberblock.root l → All (IsSoundPiece (block_count size)) chain
    → (IsTrue keeps → IsChainOf image (fields_of found.uberblock) chain) → IsReadFor keeps image size found l chain
is_read keeps image disk size frame found l chain long same pool framed is sound chain_is = record {
  loaded = record {
    root = is.root_is;
    placed = subst (λ (f : Frame). ArePlaced f.blocks (pointers_of l.tree)) framed is.placed;
    bounded = is.objects;
    sound = sound;
  };
  free = subst (λ (f : Frame). AreUnnamed f.blocks l.tree l.free) framed is.unnamed;
  pool = λ kept.
      is_read_pool image disk size frame (fields_of found.uberblock) found.name (long kept) (same kept) (pool kept) framed l.tree (objects_of l.tree) chain (is.held kept) is.root_is (chain_is kept);
}
