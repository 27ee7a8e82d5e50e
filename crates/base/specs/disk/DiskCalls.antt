-- The calls of a disk, in order, and what they make of it.
use Rattle.std.specs.Prelude.{ℕ, ◌≡◌, true, List, [], ◌∷◌, ◌++◌, Result, Ok, Err}
use Rattle.base.specs.declared.error.PoolError.{PoolError}
use Rattle.base.specs.declared.error.PoolError.TheVariants.{Write, Flush}
use Rattle.base.specs.disk.Calls.{Flushes, Writes}
use Rattle.base.specs.disk.Disk.{Disk, bytes_of, certain, put, written}

-- a write of these bytes at this place, or a flush
pub data DiskCall : Type 0 where
  Put : ℕ → List ℕ → DiskCall
  Settle : DiskCall

-- the bytes after a good call
abbrev pub bytes_made : DiskCall → List ℕ → List ℕ
bytes_made (Put place content) now = put place content now
bytes_made Settle now = now

-- the disk after a good call
abbrev pub after_disk_call : DiskCall → Disk → Disk
after_disk_call (Put place content) disk = written place content true disk
after_disk_call Settle disk = certain (bytes_of disk.now) disk

-- the disk after these calls, the first of them first
abbrev pub after_disk_calls : List DiskCall → Disk → Disk
after_disk_calls [] disk = disk
after_disk_calls (call ∷ calls) disk = after_disk_calls calls (after_disk_call call disk)

-- the call is made, with this answer
abbrev pub MakesDiskCall : DiskCall → Disk → Result (Unit {0}) PoolError → Disk → Type 0
MakesDiskCall (Put place content) old result new = Writes old place content result new
MakesDiskCall Settle old result new = Flushes old result new

-- the refusal of a call that the device fails
abbrev pub refusal_of_call : DiskCall → PoolError
refusal_of_call (Put place content) = Write
refusal_of_call Settle = Flush

-- the device refuses a call: a read gives what it gave, and a refused write may count for a crash
abbrev pub Refuses : DiskCall → PoolError → Disk → Disk → Type 0
Refuses call e old new = (e ≡ refusal_of_call call) × MakesDiskCall call old (Err e) new

-- The calls stop at one that the device refuses: those before it are made, and none of those after it.
pub record IsStoppedIn (calls : List DiskCall) (e : PoolError) (old new : Disk) : Type 0 where
  pub made : List DiskCall
  pub refused : DiskCall
  pub left_out : List DiskCall
  pub order : calls ≡ made ++ refused ∷ left_out
  pub refuses : Refuses refused e (after_disk_calls made old) new

-- the calls are made in this order, and the first that is refused ends them
abbrev pub MakesInOrder : List DiskCall → Result (Unit {0}) PoolError → Disk → Disk → Type 0
MakesInOrder calls (Ok x) old new = new ≡ after_disk_calls calls old
MakesInOrder calls (Err e) old new = IsStoppedIn calls e old new
