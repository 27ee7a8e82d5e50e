-- The free blocks of a tree and a chain, and the one that a plan leaves for the log.
use Rattle.std.specs.Prelude.{ℕ, ◌≡◌, ◌≢◌, ◌<◌, ◌⊎◌, Bool, Contains, List, true, false}
use Rattle.std.specs.List.{list_any}
use Rattle.std.specs.Ordering.{nat_cmp}
use Rattle.std.specs.FinSet as set
use Rattle.std.specs.FinSet.{FinSet}
use Rattle.base.specs.declared.pointer.Pointer.{Pointer}
use Rattle.base.specs.formats.Chain.{LogPiece, addresses_of}
use Rattle.base.specs.formats.Geometry.{block_address, IsBlockAddress}
use Rattle.base.specs.tree.Places.{Place, IsPlace}
use Rattle.trees.specs.FreeBlocks.{BlocksTaken, is_block_at}
use Rattle.space.specs.FreeSets.{FreeSpace, after_take, is_free}
use Rattle.mounted.specs.GivenBlocks.{after_gives}
use Rattle.tree_plans.specs.declared.planner.PlannedBlock.{PlannedBlock}
use Rattle.tree_plans.specs.declared.planner.TreePlan.{TreePlan}

-- the pointer at some place has this address
abbrev pub IsNamed : (Place → Pointer) → ℕ → Type 0
IsNamed pointers address = (place : Place) × IsPlace place × ((pointers place).address ≡ address)

-- the pointer at some place has this address, or it is one of these of a chain
abbrev pub IsUsedBy : (Place → Pointer) → List ℕ → ℕ → Type 0
IsUsedBy pointers logged address = IsNamed pointers address ⊎ Contains logged address

-- the free blocks are those that neither a pointer of the tree nor the chain has
pub record AreUnused (pointers : Place → Pointer) (logged : List ℕ) (blocks : ℕ) (free : FinSet nat_cmp) : Type 0 where
  pub in_area : (address : ℕ) → set.contains free address ≡ true → IsBlockAddress blocks address
  pub unused : (address : ℕ) → set.contains free address ≡ true → IsUsedBy pointers logged address → ⊥
  pub others : (address : ℕ) → set.contains free address ≡ false → IsBlockAddress blocks address → IsUsedBy pointers logged address

-- The free blocks are those that no pointer of the tree names, except for the one at this address.
pub record AreAllOthers (pointers : Place → Pointer) (blocks address : ℕ) (free : FinSet nat_cmp) : Type 0 where
  pub in_area : (other : ℕ) → set.contains free other ≡ true → IsBlockAddress blocks other
  pub unnamed : (other : ℕ) → set.contains free other ≡ true → IsNamed pointers other → ⊥
  pub not_taken : (other : ℕ) → set.contains free other ≡ true → other ≢ address
  pub others : (other : ℕ) → set.contains free other ≡ false → IsBlockAddress blocks other → IsNamed pointers other ⊎ (other ≡ address)

-- whether one of the blocks of a piece is the k-th block
abbrev pub logs_block : ℕ → LogPiece → Bool
logs_block k piece = list_any (is_block_at k) (addresses_of piece)

-- whether one of these planned blocks is the k-th block
abbrev pub plans_block : ℕ → PlannedBlock → Bool
plans_block k planned = is_block_at k (block_address planned.index)

abbrev pub is_planned : ℕ → List PlannedBlock → Bool
is_planned k planned = list_any (plans_block k) planned

-- of the free blocks of a set this one is the lowest that is not planned
pub record IsLowestLeft (spare : FreeSpace) (planned : List PlannedBlock) (block : ℕ) : Type 0 where
  pub within : block < spare.blocks
  pub free : is_free block spare ≡ true
  pub left : is_planned block planned ≡ false
  pub below : (k : ℕ) → k < block → is_free k spare ≡ true → is_planned k planned ≡ true

-- each free block of a set is planned
abbrev pub AreAllPlanned : FreeSpace → List PlannedBlock → Type 0
AreAllPlanned spare planned = (k : ℕ) → k < spare.blocks → is_free k spare ≡ true → is_planned k planned ≡ true

-- Of a set's blocks those of a plan are taken. Then what the plan replaces comes back, and the first log block is
-- taken.
pub record IsLeftByPlan (plan : TreePlan) (log_block : ℕ) (old new : FreeSpace) : Type 0 where
  pub left : FreeSpace
  pub taken : BlocksTaken (λ k. is_planned k plan.blocks.items) old left
  pub new_is : new ≡ after_take log_block (after_gives plan.freed.items left)
