-- What a pool that its session steps itself is to the session: the relations of its mount.
use Rattle.std.proofs.Common.{◌≡◌}
use Rattle.device_model.specs.MemState.{MemState}
use Rattle.pool_core.specs.KeptSafe.{IsKeptSafe, on_disk}
use Rattle.pool_core.specs.States.{device_of}
use Rattle.base.specs.kept.LeftDisks.{IsLeft}
use Rattle.scripts.specs.OwnPools.{BeginsRun, IsImportedPool, IsMadeSafely, IsStepOf, MemPool, open_plan}
use Rattle.scripts.specs.PoolSteps.{Asks}
use Rattle.scripts.specs.declared.mounted_pool.MountedPool.{Ghosts}

abbrev pub of_own : (R : Type 0) → Ghosts MemPool MemState R
of_own R = record {
  mounts = λ before device m cache_blocks moment pool. IsImportedPool device m cache_blocks pool;
  refuses = λ e. ⊥;
  gives = λ pool device. device ≡ device_of pool;
  asks = Asks IsStepOf open_plan;
  left = IsLeft;
  runs = λ past pool. IsKeptSafe (on_disk pool past);
  begins = BeginsRun;
  goes_on = λ past old new. IsMadeSafely old new past;
}
