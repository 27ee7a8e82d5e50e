-- What a write and a flush of the log do to a pool on its disk, and that they keep the crash rule.
use Rattle.std.specs.Prelude.{ℕ, ◌≡◌, Result}
use Rattle.base.specs.declared.error.PoolError.{PoolError}
use Rattle.base.specs.disk.Calls.{Flushes}
use Rattle.base.specs.disk.Disk.{bytes_of}
use Rattle.base.specs.steps.Explains.{WereSafe}
use Rattle.base.specs.steps.Steps.{LogFlush, LogWrite}
use Rattle.pool_tables.specs.LogBlocks.{WritesLogBlock}
use Rattle.pool_core.specs.KeptSafe.{IsKeptSafe, OnDisk, WereOwn}

-- the bytes are those of the disk, and the pointers of the synced tree and the running sync are as before
pub record KeepsSync (old new : OnDisk) : Type 0 where
  pub same_bytes : new.held.now ≡ bytes_of new.disk.now
  pub pointers : new.held.pointers ≡ old.held.pointers
  pub running : new.held.running ≡ old.held.running
  pub run : new.run ≡ old.run

-- a write of the log, whatever it answers
pub record WritesLogOnDisk (answer : Result ℕ PoolError) (old new : OnDisk) : Type 0 where
  pub step : LogWrite answer old.held.state new.held.state
  pub wrote : WritesLogBlock answer old.held.state.shown new.held.state.shown old.disk new.disk
  pub same : KeepsSync old new

-- and a flush of it
pub record FlushesLogOnDisk (answer : Result (Unit {0}) PoolError) (old new : OnDisk) : Type 0 where
  pub step : LogFlush answer old.held.state new.held.state
  pub flushed : Flushes old.disk answer new.disk
  pub same : KeepsSync old new

-- The crash rule stands, and at each moment since the disk was safe and the pool's own.
pub record IsKeptSafely (old new : OnDisk) : Type 0 where
  pub kept : IsKeptSafe new
  pub were : WereSafe old.disk new.disk old.held.state.past new.held.state.past
  pub own : WereOwn old new

abbrev pub LogWritesAreSafe : Type 0
LogWritesAreSafe = (answer : Result ℕ PoolError) (old new : OnDisk) → IsKeptSafe old → WritesLogOnDisk answer old new → IsKeptSafely old new

abbrev pub LogFlushesAreSafe : Type 0
LogFlushesAreSafe = (answer : Result (Unit {0}) PoolError) (old new : OnDisk) → IsKeptSafe old → FlushesLogOnDisk answer old new → IsKeptSafely old new
