-- How a command on a pool in a file ends.
use Rattle.std.specs.Prelude.{ℕ, ◌≡◌, ◌*◌, ◌/◌, Bool, IsTrue, true, false, List, Option, None, Some}
use Rattle.base.specs.declared.error.PoolError.{PoolError}
use Rattle.base.specs.declared.error.PoolError.TheVariants.{BadGeometry, BadRange, Flush, Read, Suspended, Write}
use Rattle.base.specs.formats.Geometry.{IsGeometry, is_geometry}
use Rattle.base.specs.formats.Names.{is_name}
use Rattle.read_commands.specs.declared.failure.Failure.{Failure}
use Rattle.read_commands.specs.declared.failure.Failure.TheVariants.{OutOfRange, Refused, RefusedCall, Unusable, Unwritten}

-- the status of a failure
abbrev pub failure_status : Failure → ℕ
failure_status (Refused refusal) = 1
failure_status (RefusedCall refusal call) = 1
failure_status (OutOfRange number) = 1
failure_status (Unusable cause) = 3
failure_status Unwritten = 3

-- the refusal of a failure, if the engine refused the command
abbrev pub refusal_of : Failure → Option PoolError
refusal_of (Refused refusal) = Some refusal
refusal_of (RefusedCall refusal call) = Some refusal
refusal_of (OutOfRange number) = Some BadRange
refusal_of (Unusable cause) = None
refusal_of Unwritten = None

-- a refusal that follows from a call that the device refused
abbrev pub is_of_device : PoolError → Bool
is_of_device Read = true
is_of_device Write = true
is_of_device Flush = true
is_of_device Suspended = true
is_of_device _ = false

-- The failure of a command for a refusal: it is that. It has a call that the device refused only if the refusal may
-- follow from one, and a number that was given only if it is `BadRange`.
abbrev pub IsFailureFor : PoolError → Failure → Type 0
IsFailureFor e (Refused refusal) = refusal ≡ e
IsFailureFor e (RefusedCall refusal call) = (refusal ≡ e) × IsTrue (is_of_device e)
IsFailureFor e (OutOfRange number) = e ≡ BadRange
IsFailureFor e _ = ⊥

-- the bytes of the whole sectors of a file of so many bytes
abbrev pub sector_bytes : ℕ → ℕ
sector_bytes size = 512 * (size / 512)

-- what is given for a new pool is refused: the size comes first, then the name
abbrev pub IsNewPoolRefusal : ℕ → List ℕ → PoolError → Type 0
IsNewPoolRefusal size name BadGeometry = is_geometry (sector_bytes size) ≡ false
IsNewPoolRefusal size name BadRange = IsGeometry (sector_bytes size) × (is_name name ≡ false)
IsNewPoolRefusal size name _ = ⊥
