-- What follows for a caller from what a write answers.
use Rattle.std.proofs.Common.{◌≡◌, inl, inr, ℕ, ◌+◌, ◌≤◌, true, List, length, Result, Ok, Err, OnErr, ◌∙◌, ap}
use Rattle.base.specs.declared.error.PoolError.{PoolError}
use Rattle.base.specs.formats.Fields.{part}
use Rattle.base.specs.disk.Disk.{Disk, bytes_of, disk_size, written}
use Rattle.base.specs.disk.Calls.{Writes}
use Rattle.device_model.proofs.Certain.{written_reads}

-- a refused write changes no byte that is read
pub stays_after : (place : ℕ) (content : List ℕ) (old new : Disk) (r : Result (Unit {0}) PoolError) → Writes old place content r new → OnErr r (bytes_of new.now ≡ bytes_of old.now)
stays_after place content old new (Ok x) writes = tt
stays_after place content old new (Err e) (inl is) = ap (λ (d : Disk). bytes_of d.now) is
stays_after place content old new (Err e) (inr is) = ap (λ (d : Disk). bytes_of d.now) is

-- what a good write wrote, a read after it gives
pub read_after : (place n : ℕ) (content : List ℕ) (old new : Disk) → new ≡ written place content true old → n ≡ length content → place + length content ≤ disk_size old
    → part (bytes_of new.now) place n ≡ content
read_after place n content old new writes long fits =
    ap (λ (k : ℕ). part (bytes_of new.now) place k) long ∙ ap (λ (d : Disk). part (bytes_of d.now) place (length content)) writes ∙ written_reads place content old fits
