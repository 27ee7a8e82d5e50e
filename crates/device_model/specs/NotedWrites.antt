-- What a device in memory makes of a write.
use Rattle.std.specs.Prelude.{ℕ, ◌≡◌, ◌==◌, List, Result, IsErr, is_ok, not}
use Rattle.base.specs.declared.error.PoolError.{PoolError}
use Rattle.base.specs.disk.Calls.{one_more}
use Rattle.base.specs.disk.Disk.{written}
use Rattle.device_model.specs.MemState.{MemState}

-- it was noted: it fails exactly if that was planned, and a crash leaves pieces of it
pub record IsNoted (place : ℕ) (content : List ℕ) (result : Result (Unit {0}) PoolError) (old new : MemState) : Type 0 where
  pub count : new.unnoted ≡ old.unnoted
  pub answered : is_ok result ≡ not (old.write_fails == 1)
  pub disk : new.disk ≡ written place content (is_ok result) old.disk

-- no memory was found to note it: it is refused, and counts for nothing
pub record IsUnnoted (result : Result (Unit {0}) PoolError) (old new : MemState) : Type 0 where
  pub count : new.unnoted ≡ one_more old.unnoted
  pub refused : IsErr result
  pub disk : new.disk ≡ old.disk
