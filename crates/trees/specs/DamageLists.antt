-- The damages of a tree that a list has, in the order of its walk.
use Rattle.std.specs.Prelude.{ℕ, ◌≡◌, ◌≤◌, ◌<◌, ◌+◌, ◌/◌, ◌⊎◌, List, [], ◌∷◌, ◌++◌, Contains, map}
use Rattle.base.specs.declared.error.PoolError.{PoolError}
use Rattle.base.specs.declared.error.PoolError.TheVariants.{Damaged, NoMemory, Read}
use Rattle.base.specs.declared.pointer.Pointer.{Pointer}
use Rattle.base.specs.formats.Blocks.{Frame}
use Rattle.base.specs.formats.Limits.{entry_count, object_stride, pointer_count, strip_stride}
use Rattle.base.specs.tree.Damages.{IsSoundAt}
use Rattle.base.specs.tree.Places.{Place, IsPlace, kind_of, object_of_indirect, walk_index_of, walk_index_of_indirect, walk_index_of_object, pointer_of}
use Rattle.base.specs.tree.Places.Place.{Root, Directory, Top, Indirect, Data}
use Rattle.trees.specs.declared.damages.BlockDamage.{BlockDamage}
use Rattle.trees.specs.Walking.{directory_index}

-- why no list is made: there is no memory, or the device refused a read
abbrev pub IsListRefusal : PoolError → Type 0
IsListRefusal e = (e ≡ NoMemory) ⊎ (e ≡ Read)

-- One place lies below another: all places below the root, the objects of its entries below a directory, the strips of
-- its object below a top, its records below an indirect block.
abbrev pub LiesBelow : Place → Place → Type 0
LiesBelow Root Root = ⊥
LiesBelow Root (Directory d) = Unit {0}
LiesBelow Root (Top n) = Unit {0}
LiesBelow Root (Indirect m) = Unit {0}
LiesBelow Root (Data m k) = Unit {0}
LiesBelow (Directory d) Root = ⊥
LiesBelow (Directory d) (Directory e) = ⊥
LiesBelow (Directory d) (Top n) = n / entry_count ≡ d
LiesBelow (Directory d) (Indirect m) = object_of_indirect m / entry_count ≡ d
LiesBelow (Directory d) (Data m k) = object_of_indirect m / entry_count ≡ d
LiesBelow (Top n) Root = ⊥
LiesBelow (Top n) (Directory e) = ⊥
LiesBelow (Top n) (Top o) = ⊥
LiesBelow (Top n) (Indirect m) = object_of_indirect m ≡ n
LiesBelow (Top n) (Data m k) = object_of_indirect m ≡ n
LiesBelow (Indirect m) Root = ⊥
LiesBelow (Indirect m) (Directory e) = ⊥
LiesBelow (Indirect m) (Top n) = ⊥
LiesBelow (Indirect m) (Indirect i) = ⊥
LiesBelow (Indirect m) (Data i k) = i ≡ m
LiesBelow (Data m k) lower = ⊥

-- how a damage of the block at a place is listed
abbrev pub block_damage : List ℕ → Pointer → Place → BlockDamage
block_damage image root place = record { kind = kind_of place; address = (pointer_of image root place).address }

-- the index in the walk behind a place and all that lies below it
abbrev pub walk_index_after : Place → ℕ
walk_index_after Root = directory_index pointer_count
walk_index_after (Directory d) = directory_index (d + 1)
walk_index_after (Top n) = walk_index_of_object n + object_stride
walk_index_after (Indirect m) = walk_index_of_indirect m + strip_stride
walk_index_after (Data m k) = walk_index_of_indirect m + 1 + k + 1

-- the places stand in the walk from one index up to another, each behind the one before it and all that lies below that
abbrev pub StandRising : ℕ → List Place → ℕ → Type 0
StandRising start [] end = start ≤ end
StandRising start (place ∷ others) end = (start ≤ walk_index_of place) × StandRising (walk_index_after place) others end

-- a place is sound, or it is one of the damaged places, or lies below one of them
abbrev pub IsJudged : List ℕ → Frame → Pointer → List Place → Place → Type 0
IsJudged image frame root damaged place = IsSoundAt image frame root place ⊎ (Contains damaged place
    ⊎ ((upper : Place) × Contains damaged upper × LiesBelow upper place))

-- What a list of damages says of a tree: it has those of damaged places, rising in the walk, and none of them lies
-- below another. Each place of the tree is sound, or one of them, or lies below one of them.
pub record ListsDamages (image : List ℕ) (frame : Frame) (root : Pointer) (list : List BlockDamage) : Type 0 where
  pub places : List Place
  pub listed : list ≡ map (block_damage image root) places
  pub damaged : (place : Place) → Contains places place → IsPlace place × (IsSoundAt image frame root place → ⊥)
  pub rising : StandRising 0 places (directory_index pointer_count)
  pub all : (place : Place) → IsPlace place → IsJudged image frame root places place

-- these are the damaged places of the walk from one index up to another
pub record AreDamaged (image : List ℕ) (frame : Frame) (root : Pointer) (start end : ℕ) (places : List Place) : Type 0 where
  pub damaged : (place : Place) → Contains places place → IsPlace place × (IsSoundAt image frame root place → ⊥)
  pub rising : StandRising start places end
  pub all : (place : Place) → IsPlace place → start ≤ walk_index_of place → walk_index_of place < end → IsJudged image frame root places place

-- a walk over the places from one index up to another adds their damages to a list
pub record AddsDamages (image : List ℕ) (frame : Frame) (root : Pointer) (start end : ℕ) (old new : List BlockDamage) : Type 0 where
  pub places : List Place
  pub added : new ≡ old ++ map (block_damage image root) places
  pub are : AreDamaged image frame root start end places

-- the damage that a refusal tells is added to a list
abbrev pub AddsTold : PoolError → List BlockDamage → List BlockDamage → Type 0
AddsTold e old new = (kind : ℕ) × (address : ℕ) × (e ≡ Damaged kind address) × (new ≡ old ++ record { kind = kind; address = address } ∷ [])
