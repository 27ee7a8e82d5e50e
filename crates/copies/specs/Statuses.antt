-- How the command `copy` ends, by its status.
use Rattle.std.specs.Prelude.{ℕ, ◌≡◌, ◌⊎◌, Bool, false, true, List, [], Option}
use Rattle.std.specs.Io.KnownBytes.{Appends}
use Rattle.base.specs.disk.Disk.{Disk}
use Rattle.device_model.specs.declared.device.SectorDevice.{Ghosts}
use Rattle.read_commands.specs.Failures.{IsFailureFor}
use Rattle.read_commands.specs.declared.failure.Failure.{Failure}
use Rattle.read_commands.specs.declared.failure.Failure.TheVariants.{Unusable, Unwritten}
use Rattle.file_devices.specs.declared.held_file.FileRefusal.{FileRefusal}
use Rattle.copies.specs.NewPools.{CopiesAll}
use Rattle.copies.specs.Stops.{IsStopOf}
use Rattle.copies.specs.declared.stop.Stop.{Stop}
use Rattle.copies.specs.declared.stop.Stop.TheVariants as stop

-- the failure of a copy that ended so
abbrev pub IsFailureOf : Stop → Failure → Type 0
IsFailureOf (stop.Old e) why = IsFailureFor e why
IsFailureOf (stop.New e) why = IsFailureFor e why
IsFailureOf stop.Unwritten why = why ≡ Unwritten

-- a copy ended so before its end, by what was read of a pool on this disk
abbrev pub IsStopFailure : Bool → Disk → Bool → Failure → Type 0
IsStopFailure keeps disk skips why = (s : Stop) × IsStopOf keeps disk skips s × IsFailureOf s why

-- so it did, or the new file can't be used
abbrev pub IsCopyFailure : Bool → Disk → Bool → Failure → Type 0
IsCopyFailure keeps disk skips why = ((cause : FileRefusal) × (why ≡ Unusable cause)) ⊎ IsStopFailure keeps disk skips why

module _ {Dev : Type 0} (D : Ghosts Dev) where
  -- what of a device's pool was copied
  abbrev pub CopiesOf : Dev → Bool → Bool → Option (List ℕ) → Option (List ℕ) → Type 0
  CopiesOf device skips whole before after = CopiesAll (D.keeps_model) (D.disk device) skips whole before after

  -- all of it, and no line was written
  abbrev pub IsCopied : Dev → Bool → Option (List ℕ) → Option (List ℕ) → Type 0
  IsCopied device skips before after = CopiesOf device skips true before after × Appends before after []

  -- the engine refused it for this; or all but what the lines say
  abbrev pub IsPartlyCopied : Dev → Bool → Option (List ℕ) → Option (List ℕ) → Type 0
  IsPartlyCopied device skips before after = ((why : Failure) × IsCopyFailure (D.keeps_model) (D.disk device) skips why) ⊎ CopiesOf device skips false before after
