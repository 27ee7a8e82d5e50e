-- What leads to the objects of a pool, and why a search for it, or a call by it, is refused.
use Rattle.std.specs.Prelude.{ℕ, ◌≡◌, IsTrue, List}
use Rattle.base.specs.declared.error.PoolError.{PoolError}
use Rattle.base.specs.declared.error.PoolError.TheVariants.{BadGeometry, Damaged, NoPool}
use Rattle.base.specs.disk.Disk.{bytes_of}
use Rattle.base.specs.formats.Geometry.{IsGeometry}
use Rattle.base.specs.formats.Uberblocks.{Uberblock}
use Rattle.base.specs.tree.Mount.{HasNoPool, HasPool, IsChainOf}
use Rattle.device_model.specs.declared.device.SectorDevice.{Ghosts}
use Rattle.uberblocks.specs.Slots.{fields_of}
use Rattle.object_maps.specs.BlockReads.{IsLoadRefusal}
use Rattle.log_replay.specs.Replays.{IsChainAllowed}
use Rattle.inspections.specs.PoolDamages.{IsOfNoDamage}
use Rattle.inspections.specs.Refused.{IsInspectionRefusal}
use Rattle.object_views.specs.declared.paths.PoolPaths.{PoolPaths}

-- the active uberblock of the paths
abbrev pub uberblock_of : PoolPaths → Uberblock
uberblock_of p = fields_of p.found.uberblock

-- The paths are those of the image's pool. They have its active uberblock, its name and its chain of log blocks.
pub record ArePathsOf (image : List ℕ) (p : PoolPaths) : Type 0 where
  pub pool : HasPool image (uberblock_of p) p.found.name
  pub chain_is : IsChainOf image (uberblock_of p) p.logged.items

-- They were found on a device of so many bytes, and each record of their chain is within its limits.
pub record AreFoundOn (size : ℕ) (p : PoolPaths) : Type 0 where
  pub size_is : p.geometry ≡ size
  pub geometry : IsGeometry size
  pub allowed : IsChainAllowed p.logged.items

-- A search for paths was refused: it tells no damage, and by size the device is as it was.
pub record IsFindingRefused {Dev : Type 0} (D : Ghosts Dev) (old new : Dev) (e : PoolError) : Type 0 where
  pub kind : IsInspectionRefusal (D.size old) e
  pub no_pool : IsTrue D.keeps_model → e ≡ NoPool → HasNoPool (bytes_of (D.disk old).now)
  pub undamaged : IsOfNoDamage e
  pub untouched : e ≡ BadGeometry → new ≡ old

-- A call by these paths was refused: for memory, for a read, or with a damage, which tells this of the image that has the
-- paths.
pub record IsPathsRefusal {Dev : Type 0} (D : Ghosts Dev) (p : PoolPaths) (old : Dev) (Tells : List ℕ → PoolError → ℕ → ℕ → Type 0) (e : PoolError) : Type 0 where
  pub kind : IsLoadRefusal e
  pub damaged : IsTrue D.keeps_model → ArePathsOf (bytes_of (D.disk old).now) p → (kind address : ℕ) → e ≡ Damaged kind address → Tells (bytes_of (D.disk old).now) e kind address
