-- What callers see of a device on a file.
use Rattle.std.specs.Prelude.{◌≡◌, ℕ, ◌*◌, ◌/◌, Bool, true, false, IsTrue, Option, None, Some, Result, Ok, Err}
use Rattle.base.specs.declared.error.PoolError.{PoolError}
use Rattle.base.specs.disk.Disk.{Disk, HasEarlierWrites, disk_size}
use Rattle.base.specs.formats.Geometry.{sector_size}
use Rattle.base.specs.declared.refused.RefusedCalls.{RefusedCalls}
use Rattle.device_model.specs.MemState.{blank}
use Rattle.file_devices.specs.declared.refused_call.CallCause.{CallCause}
use Rattle.file_devices.specs.declared.refused_call.FileCall.{FileCall}
use Rattle.file_devices.specs.declared.refused_call.RefusedCall.{RefusedCall}

-- its size in bytes, how many calls of each kind it refused, the last of these, and the disk that the file shows
pub record FileState : Type 0 where
  pub size : ℕ
  pub refused : RefusedCalls
  pub last : Option RefusedCall
  pub disk : Disk

-- no call was refused
abbrev pub none_refused : RefusedCalls
none_refused = record { reads = 0; writes = 0; flushes = 0 }

-- the disk of a file that keeps no model: nothing holds for it
abbrev pub no_disk : Disk
no_disk = blank 0

-- the size of a device: that of the disk, where the file keeps the model
abbrev pub size_of : Bool → FileState → ℕ
size_of true s = disk_size s.disk
size_of false s = s.size

-- A file that keeps the model shows a disk of so many sectors. Each write that counts on it was handed at an earlier
-- moment.
pub record ShowsDisk (sectors : ℕ) (disk : Disk) : Type 0 where
  pub size : disk_size disk ≡ sector_size * sectors
  pub earlier : HasEarlierWrites disk

-- What a device is over a file that shows this disk: it has so many sectors, and if it has refused a call, it has the
-- last of these.
pub record IsSoundFile (keeps : Bool) (sectors : ℕ) (disk : Disk) (refused : RefusedCalls) (last : Option RefusedCall) : Type 0 where
  pub shown : IsTrue keeps → ShowsDisk sectors disk
  pub none : last ≡ None → refused ≡ none_refused

-- What a device has as the last refused call after this one: this call with a cause, if it was refused; else what it
-- had.
abbrev pub NotesLast : Result (Unit {0}) PoolError → FileCall → Option RefusedCall → Option RefusedCall → Type 0
NotesLast (Ok _) call old new = new ≡ old
NotesLast (Err _) call old new = (cause : CallCause) × new ≡ Some (record { call = call; cause = cause })

-- a file's answer as the device's: whatever the cause, it is this refusal
abbrev pub refused_as : PoolError → Result (Unit {0}) CallCause → Result (Unit {0}) PoolError
refused_as refusal (Ok x) = Ok x
refused_as refusal (Err cause) = Err refusal

-- a device of so many bytes has the whole sectors of a file of `bytes` bytes
abbrev pub HasSectorsOf : ℕ → ℕ → Type 0
HasSectorsOf bytes size = size ≡ sector_size * (bytes / sector_size)
