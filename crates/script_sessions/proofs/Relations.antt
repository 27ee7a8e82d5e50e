-- What a pool under a lock is to its session: the relations of its mount.
use Rattle.std.proofs.Common.{◌≡◌}
use Rattle.base.specs.declared.error.PoolError.TheVariants.{NoMemory}
use Rattle.base.specs.kept.LeftDisks.{IsLeft}
use Rattle.device_model.specs.MemState.{MemState}
use Rattle.scripts.specs.declared.mounted_pool.MountedPool.{Ghosts}
use Rattle.script_sessions.specs.SharedPools.{AsksShared, IsDeviceIn, IsMountShared}
use Rattle.script_sessions.specs.SharedRuns.{BeginsShared, GoesSafely, IsRunOf}
use Rattle.script_sessions.specs.declared.shared_pool.SharedPool.{SharedPool}

abbrev pub of_shared : (W : Type 0) → Ghosts SharedPool MemState W
of_shared W = record {
  mounts = λ before device m cache_blocks moment shared. IsMountShared before.disk device.disk m cache_blocks moment shared;
  refuses = λ e. e ≡ NoMemory;
  gives = IsDeviceIn;
  asks = AsksShared W;
  left = λ past disk. ∥ IsLeft past disk ∥₁;
  runs = IsRunOf;
  begins = BeginsShared;
  goes_on = λ past old new. ∥ GoesSafely past old new ∥₁;
}
