-- What an import reads of an image: an active pool, the tree under its root, and its chain of log blocks.
use Rattle.std.specs.Prelude.{ℕ, ◌≡◌, All, List, length, IfSome}
use Rattle.std.specs.Ordering.{nat_cmp}
use Rattle.std.specs.FinMap as finite
use Rattle.std.specs.FinMap.{FinMap}
use Rattle.base.specs.tree.Mount.{HasPool, IsChainOf}
use Rattle.base.specs.formats.Blocks.{Frame}
use Rattle.base.specs.formats.Chain.{LogPiece}
use Rattle.base.specs.formats.Geometry.{block_count}
use Rattle.base.specs.formats.Uberblocks.{Uberblock}
use Rattle.base.specs.kept.PlacedTrees.{ArePlaced, HoldsTree}
use Rattle.intent_log.specs.Chains.{IsSoundPiece}
use Rattle.tree_blocks.specs.declared.tree.Tree.{Tree}
use Rattle.trees.specs.Loading.{IsLimitedObject}
use Rattle.tree_blocks.specs.TreeObjects.{objects_of}
use Rattle.tree_blocks.specs.Pointers.{pointers_of}

-- the frame of an active uberblock, on a device of so many blocks
abbrev pub frame_with : Uberblock → ℕ → Frame
frame_with u blocks = record { version = u.version; guid = u.guid; blocks = blocks; group = u.group }

-- and of so many bytes
abbrev pub frame_of_size : Uberblock → ℕ → Frame
frame_of_size u size = frame_with u (block_count size)

-- What was loaded for this uberblock, on every device: its root, pointers to blocks of the area alone, objects within
-- their limits, and log blocks that lie in the area, of records within their limits.
pub record IsLoadedFor (u : Uberblock) (blocks : ℕ) (tree : Tree) (chain : List LogPiece) : Type 0 where
  pub root : tree.root ≡ u.root
  pub placed : ArePlaced blocks (pointers_of tree)
  pub bounded : (n : ℕ) → IfSome (finite.get (objects_of tree) n) (IsLimitedObject n)
  pub sound : All (IsSoundPiece blocks) chain

-- an image of so many bytes has an active pool, holds this tree of these objects under its root, and has the chain that
-- its uberblock begins
pub record HoldsPool (image : List ℕ) (size : ℕ) (u : Uberblock) (name : List ℕ) (tree : Tree) (objects : FinMap nat_cmp (List ℕ)) (chain : List LogPiece) : Type 0 where
  pub long : length image ≡ size
  pub pool : HasPool image u name
  pub held : HoldsTree image (frame_of_size u size) (pointers_of tree) objects
  pub root : tree.root ≡ u.root
  pub chain_is : IsChainOf image u chain

-- the tree of its own objects
abbrev pub IsReadPool : List ℕ → ℕ → Uberblock → List ℕ → Tree → List LogPiece → Type 0
IsReadPool image size u name tree chain = HoldsPool image size u name tree (objects_of tree) chain
