-- What an earlier run left on a disk, and a disk that goes on from another one.
use Rattle.std.specs.Prelude.{ℕ}
use Rattle.base.specs.kept.CrashRule.{IsRunLeft}
use Rattle.base.specs.disk.Disk.{Disk, EachMoment}
use Rattle.base.specs.history.Past.{Past}

-- the later disk goes on from the earlier one: its moments are those of the earlier one, and others after them
abbrev pub GoesOnFrom : Disk → Disk → Type 0
GoesOnFrom old new = EachMoment (λ m. Unit {0}) old new

-- a run with this past left the disk
abbrev pub IsLeft : Past → Disk → Type 0
IsLeft past disk = (guid : ℕ) × IsRunLeft disk past guid
