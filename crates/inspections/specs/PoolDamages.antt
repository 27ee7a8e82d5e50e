-- What is found of a pool: that it is whole, or its damages.
use Rattle.std.specs.Prelude.{ℕ, ◌≡◌, ◌≢◌, ◌⊎◌, List, [], ◌∷◌}
use Rattle.base.specs.tree.Mount.{HasPool, IsChainDamaged, frame_of}
use Rattle.base.specs.declared.error.PoolError.{PoolError}
use Rattle.base.specs.declared.error.PoolError.TheVariants as refusal
use Rattle.base.specs.formats.Uberblocks.{Uberblock}
use Rattle.trees.specs.DamageLists.{ListsDamages}
use Rattle.trees.specs.declared.damages.BlockDamage.{BlockDamage}
use Rattle.inspections.specs.Inspections.{AgreesWithImports, IsInspectionOf}
use Rattle.inspections.specs.declared.damages.Soundness.{Soundness}
use Rattle.inspections.specs.declared.damages.Soundness.TheVariants.{Whole, Damaged}

-- the image has a pool, and these are the damages of the tree of its active uberblock
pub record HasTreeDamages (image : List ℕ) (list : List BlockDamage) : Type 0 where
  pub u : Uberblock
  pub name : List ℕ
  pub pool : HasPool image u name
  pub lists : ListsDamages image (frame_of image u) u.root list

-- this is the one damage of a chain: the block of the first record that is refused
abbrev pub IsLogDamage : List ℕ → List BlockDamage → Type 0
IsLogDamage image list = (address : ℕ) × (list ≡ record { kind = 6; address = address } ∷ []) × IsChainDamaged image address

-- there are damages: these of the tree, or that of the chain
abbrev pub HasDamages : List ℕ → List BlockDamage → Type 0
HasDamages image list = (list ≢ []) × (HasTreeDamages image list ⊎ IsLogDamage image list)

-- what is found is so of the image: what it mounts, or its damages
abbrev pub IsSoundnessOf : List ℕ → Soundness → Type 0
IsSoundnessOf image (Whole i) = IsInspectionOf image i × AgreesWithImports image i
IsSoundnessOf image (Damaged list) = HasDamages image list.items

-- a refusal that names no damage
abbrev pub IsOfNoDamage : PoolError → Type 0
IsOfNoDamage e = (kind address : ℕ) → e ≢ refusal.Damaged kind address
