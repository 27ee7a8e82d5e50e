-- What an inspection that was refused says of the image, and what it leaves of the device.
use Rattle.std.specs.Prelude.{ℕ, ◌≡◌, IsTrue}
use Rattle.base.specs.declared.error.PoolError.{PoolError}
use Rattle.base.specs.declared.error.PoolError.TheVariants.{BadGeometry}
use Rattle.base.specs.disk.Disk.{bytes_of}
use Rattle.base.specs.formats.Geometry.{IsGeometry}
use Rattle.device_model.specs.declared.device.SectorDevice.{Ghosts}
use Rattle.import_replay.specs.ImportRefusals.{FindsOwn, IsReason, IsWalkRefusal}

-- an inspection of a device of so many bytes is refused: the size comes first, before any device call
abbrev pub IsInspectionRefusal : ℕ → PoolError → Type 0
IsInspectionRefusal size BadGeometry = IsGeometry size → ⊥
IsInspectionRefusal size e = IsGeometry size × IsWalkRefusal e

-- An inspection was refused: by size the device is as it was.
pub record IsInspectionRefused {Dev : Type 0} (D : Ghosts Dev) (old new : Dev) (e : PoolError) : Type 0 where
  pub kind : IsInspectionRefusal (D.size old) e
  pub reason : IsTrue D.keeps_model → IsReason (bytes_of (D.disk old).now) e
  pub found : IsTrue D.keeps_model → FindsOwn (D.disk old) e
  pub untouched : e ≡ BadGeometry → new ≡ old
