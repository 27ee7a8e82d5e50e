-- The blocks that a plan takes and those that come back: their addresses are those of blocks.
use Rattle.std.proofs.Common.{◌≡◌, ℕ, true, List, [], ◌∷◌, map, refl, ap}
use Rattle.std.specs.Prelude.{All, get_or}
use Rattle.std.proofs.Math.Logic.{∥∥₁_elim}
use mathlib.Core.Bool.{Bool-set}
use Rattle.base.specs.formats.Geometry.{IsBlockAddress, is_block_of}
use Rattle.base.proofs.formats.BlockTests.{block_passes}
use Rattle.base.specs.kept.PlannedTrees.{NewBlock}
use Rattle.tree_plans.specs.declared.planner.PlannedBlock.{PlannedBlock}
use Rattle.tree_plans.specs.Plans.{address_of, new_block}

-- the addresses of blocks as they are written
pub addresses_are : (blocks : List PlannedBlock) → map (λ (b : NewBlock). b.address) (map new_block blocks) ≡ map address_of blocks
addresses_are [] = refl
addresses_are (b ∷ blocks) = ap (λ (l : List ℕ). address_of b ∷ l) (addresses_are blocks)

-- the addresses that come back are those of blocks, where the pointers of the tree are placed
pub are_blocks : (blocks : ℕ) (placed : Type 0) (freed : List ℕ) → ∥ placed ∥₁ → (placed → All (λ address. IsBlockAddress blocks address) freed) → All (λ address. is_block_of blocks address ≡ true) freed
are_blocks blocks placed freed is returned = λ k d low. ∥∥₁_elim is (Bool-set _ _) (λ at. block_passes blocks (get_or freed k d) (returned at k d low))
