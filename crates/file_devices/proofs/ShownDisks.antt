-- A file's disk keeps its size over each call, and each write that counts stays earlier than the disk now.
use Rattle.std.proofs.Common.{◌≡◌, inl, inr, ℕ, ◌+◌, ◌≤◌, Bool, true, false, List, length, Option, Result, Ok, Err, refl, sym, ◌∙◌, ap, subst}
use Rattle.base.specs.declared.error.PoolError.{PoolError}
use Rattle.base.specs.disk.Calls.{Flushes, Writes}
use Rattle.base.specs.disk.Disk.{Disk, bytes_of, disk_size, written}
use Rattle.base.proofs.disk.EarlierWrites.{earlier_flushes, earlier_writes}
use Rattle.base.proofs.disk.Put.{length-put}
use Rattle.base.proofs.disk.Regions.{flushed_clean}
use Rattle.file_devices.specs.FileState.{FileState, NotesLast, ShowsDisk, size_of}
use Rattle.file_devices.specs.declared.refused_call.FileCall.{FileCall}
use Rattle.file_devices.specs.declared.refused_call.RefusedCall.{RefusedCall}
use Rattle.std.specs.Prelude.{OnOk}

size-written : (place : ℕ) (content : List ℕ) (done : Bool) (disk : Disk) → place + length content ≤ disk_size disk → disk_size (written place content done disk) ≡ disk_size disk
size-written place content true disk fits = length-put place content (bytes_of disk.now) fits
size-written place content false disk fits = refl

size-writes : (place : ℕ) (content : List ℕ) (old new : Disk) (r : Result (Unit {0}) PoolError) → place + length content ≤ disk_size old → Writes old place content r new → disk_size new ≡ disk_size old
size-writes place content old new (Ok x) fits is = ap (λ (d : Disk). disk_size d) is ∙ size-written place content true old fits
size-writes place content old new (Err e) fits (inl is) = ap (λ (d : Disk). disk_size d) is ∙ size-written place content false old fits
size-writes place content old new (Err e) fits (inr is) = ap (λ (d : Disk). disk_size d) is

size-flushes : (old new : Disk) (r : Result (Unit {0}) PoolError) → Flushes old r new → disk_size new ≡ disk_size old
size-flushes old new (Ok x) is = ap (λ (l : List ℕ). length l) (flushed_clean old new is).1
size-flushes old new (Err e) is = ap (λ (d : Disk). disk_size d) is

-- where the file keeps the model, what lies on the device lies on its disk
pub fits_on_disk : (keeps : Bool) (seen s : FileState) (end : ℕ) → keeps ≡ true → seen ≡ s → end ≤ size_of keeps s → end ≤ disk_size seen.disk
fits_on_disk keeps seen s end is same fits = subst (λ (n : ℕ). end ≤ n) (ap (λ (b : Bool). size_of b s) is ∙ ap (λ (t : FileState). disk_size t.disk) (sym same)) fits

pub shown_writes : (sectors place : ℕ) (content : List ℕ) (old new : Disk) (r : Result (Unit {0}) PoolError) → place + length content ≤ disk_size old → Writes old place content r new
    → ShowsDisk sectors old → ShowsDisk sectors new
shown_writes sectors place content old new r fits writes shown = record {
  size = size-writes place content old new r fits writes ∙ shown.size;
  earlier = earlier_writes old new place content r writes shown.earlier;
}

pub shown_flushes : (sectors : ℕ) (old new : Disk) (r : Result (Unit {0}) PoolError) → Flushes old r new → ShowsDisk sectors old → ShowsDisk sectors new
shown_flushes sectors old new r flushes shown = record {
  size = size-flushes old new r flushes ∙ shown.size;
  earlier = earlier_flushes old new r flushes shown.earlier;
}

-- a call that was answered leaves the last refused one
pub last_left : (r : Result (Unit {0}) PoolError) (call : FileCall) (old new : Option RefusedCall) → NotesLast r call old new → OnOk r (new ≡ old)
last_left (Ok x) call old new same = same
last_left (Err e) call old new noted = tt
