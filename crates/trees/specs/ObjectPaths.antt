-- An object of a tree by the blocks of its path: the root, its directory, its top, its indirect blocks and its records.
-- Nothing of the other objects is asked.
use Rattle.std.specs.Prelude.{ℕ, ◌≡◌, ◌≢◌, ◌<◌, ◌/◌, ◌⊎◌, List, Option, Some, None, length}
use Rattle.std.specs.Ordering.{nat_cmp}
use Rattle.std.specs.FinMap as finite
use Rattle.std.specs.FinMap.{FinMap}
use Rattle.base.specs.declared.error.PoolError.{PoolError}
use Rattle.base.specs.declared.error.PoolError.TheVariants.{Damaged}
use Rattle.base.specs.declared.pointer.Pointer.{Pointer}
use Rattle.base.specs.formats.Blocks.{Frame}
use Rattle.base.specs.formats.Limits.{entry_count, indirect_count, object_count, pointer_count}
use Rattle.base.specs.tree.Damages.{IsSoundAt, length_in}
use Rattle.base.specs.tree.Places.{Place, data_pointer, kind_of, levels_in, object_of_indirect, pointer_of}
use Rattle.base.specs.tree.Places.Place.{Directory, Root}
use Rattle.base.specs.tree.Tree.{IsRecord, IsTree}
use Rattle.tree_blocks.specs.declared.forms.Entry.{Entry}
use Rattle.trees.specs.Walking.{IsObjectAt}

-- object n is there and has these bytes: the entry of its directory has their length, and each of its records is what
-- the pointer there names
pub record HasOnPath (image : List ℕ) (frame : Frame) (root : Pointer) (n : ℕ) (bytes : List ℕ) : Type 0 where
  pub there : levels_in image root n ≢ 0
  pub size : length_in image root n ≡ length bytes
  pub records : (m k : ℕ) → m < indirect_count → object_of_indirect m ≡ n → k < pointer_count → IsRecord image frame m k (data_pointer image root m k) bytes

-- object n is absent by its directory, or has these bytes
abbrev pub IsOnPath : List ℕ → Frame → Pointer → ℕ → Option (List ℕ) → Type 0
IsOnPath image frame root n None = levels_in image root n ≡ 0
IsOnPath image frame root n (Some bytes) = HasOnPath image frame root n bytes

-- each object of a tree is what the blocks of its path say
abbrev pub TreesAreByPaths : Type 0
TreesAreByPaths = (image : List ℕ) (frame : Frame) (root : Pointer) (objects : FinMap nat_cmp (List ℕ)) → IsTree image frame root objects
    → (n : ℕ) → n < object_count → IsOnPath image frame root n (finite.get objects n)

-- what the directory of object n has of it: no entry, or this one
abbrev pub IsEntryFound : List ℕ → Pointer → ℕ → Option Entry → Type 0
IsEntryFound image root n None = levels_in image root n ≡ 0
IsEntryFound image root n (Some entry) = IsObjectAt image root n entry

-- a Damaged tells a place that isn't sound: its kind, and the address of the pointer there
abbrev pub TellsPlace : List ℕ → Frame → Pointer → Place → PoolError → Type 0
TellsPlace image frame root place e = (kind address : ℕ) → e ≡ Damaged kind address
    → (kind_of place ≡ kind) × ((pointer_of image root place).address ≡ address) × (IsSoundAt image frame root place → ⊥)

-- it tells the root, or the directory of object n
abbrev pub TellsAbove : List ℕ → Frame → Pointer → ℕ → PoolError → Type 0
TellsAbove image frame root n e = TellsPlace image frame root Root e ⊎ TellsPlace image frame root (Directory (n / entry_count)) e

-- the root is sound, and the directory of object n
abbrev pub IsSoundAbove : List ℕ → Frame → Pointer → ℕ → Type 0
IsSoundAbove image frame root n = IsSoundAt image frame root Root × IsSoundAt image frame root (Directory (n / entry_count))
