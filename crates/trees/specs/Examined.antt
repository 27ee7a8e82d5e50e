-- What a load of a tree gives, and what a walk finds that goes on after a damage.
use Rattle.std.specs.Prelude.{ℕ, ◌≢◌, Bool, IsTrue, IfSome, List, [], ◌≡◌}
use Rattle.std.specs.FinMap as finite
use Rattle.base.specs.declared.pointer.Pointer.{Pointer}
use Rattle.base.specs.formats.Blocks.{Frame}
use Rattle.base.specs.kept.PlacedTrees.{ArePlaced, HoldsTree}
use Rattle.tree_blocks.specs.declared.tree.Tree.{Tree}
use Rattle.tree_blocks.specs.TreeObjects.{objects_of}
use Rattle.trees.specs.declared.damages.BlockDamage.{BlockDamage}
use Rattle.trees.specs.declared.damages.Examined.{Examined}
use Rattle.trees.specs.declared.damages.Examined.TheVariants.{Damaged, Whole}
use Rattle.trees.specs.declared.objects.Loaded.{Loaded}
use Rattle.trees.specs.FreeBlocks.{AreUnnamed}
use Rattle.trees.specs.Loading.{IsLimitedObject}
use Rattle.tree_blocks.specs.Pointers.{pointers_of}

-- the objects of a tree are within the limits of a pool
abbrev pub HasLimitedObjects : Tree → Type 0
HasLimitedObjects tree = (n : ℕ) → IfSome (finite.get (objects_of tree) n) (IsLimitedObject n)

-- The tree under a root pointer as it is loaded: it has this root and pointers to blocks of the area alone, those are
-- free that no pointer of it names, and its objects are within their limits. The image of a device that keeps the model
-- holds it with its objects.
pub record IsLoadedOf (keeps : Bool) (image : List ℕ) (frame : Frame) (root : Pointer) (l : Loaded) : Type 0 where
  pub root_is : l.tree.root ≡ root
  pub placed : ArePlaced frame.blocks (pointers_of l.tree)
  pub unnamed : AreUnnamed frame.blocks l.tree l.free
  pub objects : HasLimitedObjects l.tree
  pub held : IsTrue keeps → HoldsTree image frame (pointers_of l.tree) (objects_of l.tree)

-- what a walk finds that goes on after a damage: a tree as it is loaded, or at least one damage
abbrev pub IsExamined : Bool → List ℕ → Frame → Pointer → Examined → Type 0
IsExamined keeps image frame root (Whole l) = IsLoadedOf keeps image frame root l
IsExamined keeps image frame root (Damaged list) = list.items ≢ []

-- the damages that it finds
abbrev pub damages_of : Examined → List BlockDamage
damages_of (Whole l) = []
damages_of (Damaged list) = list.items
