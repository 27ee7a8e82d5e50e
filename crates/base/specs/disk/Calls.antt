-- What each call of a device does to the disk.
use Rattle.std.specs.Prelude.{◌≡◌, ◌⊎◌, ℕ, ◌+◌, ◌-◌, ◌%◌, ◌^◌, ◌≤◌, true, false, List, Result, Ok, Err, min}
use Rattle.base.specs.disk.Disk.{Disk, written, certain, bytes_of}
use Rattle.base.specs.declared.error.PoolError.{PoolError}
use Rattle.base.specs.declared.error.PoolError.TheVariants.{Read, Write, Flush}
use Rattle.base.specs.declared.refused.RefusedCalls.{RefusedCalls}

-- whole sectors that lie on a device of so many bytes
pub record IsOnDevice (size place n : ℕ) : Type 0 where
  pub aligned : place % 512 ≡ 0
  pub whole : n % 512 ≡ 0
  pub within : place + n ≤ size

-- A write that answers Ok is done. One that fails may count as a write for a crash, so any bytes may then stand in its
-- range; that what a read gives stays as it was until then is a condition on each device that keeps the model.
abbrev pub Writes : Disk → ℕ → List ℕ → Result (Unit {0}) PoolError → Disk → Type 0
Writes old place content (Ok x) new = new ≡ written place content true old
Writes old place content (Err e) new = (new ≡ written place content false old) ⊎ (new ≡ old)

-- A flush that answers Ok makes what a read gives certain. One that fails changes nothing.
abbrev pub Flushes : Disk → Result (Unit {0}) PoolError → Disk → Type 0
Flushes old (Ok x) new = new ≡ certain (bytes_of old.now) old
Flushes old (Err e) new = new ≡ old

-- one more, up to the greatest count
abbrev pub one_more : ℕ → ℕ
one_more n = min (n + 1) (2 ^ 64 - 1)

-- the refused calls with one more of its kind, where it is the device that refused
abbrev pub with_refusal : PoolError → RefusedCalls → RefusedCalls
with_refusal Read calls = record calls { reads = one_more calls.reads }
with_refusal Write calls = record calls { writes = one_more calls.writes }
with_refusal Flush calls = record calls { flushes = one_more calls.flushes }
with_refusal _ calls = calls

-- the refused calls of a device after an answer: one more of its kind exactly if that is the device's refusal
abbrev pub counted : {T : Type 0} → Result T PoolError → RefusedCalls → RefusedCalls
counted (Ok x) calls = calls
counted (Err e) calls = with_refusal e calls
