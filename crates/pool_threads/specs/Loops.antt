-- What a handle does that runs as a loop.
use Rattle.std.specs.Prelude.{IsTrue, Some}
use Rattle.base.specs.declared.error.PoolError.{PoolError}
use Rattle.base.specs.declared.error.PoolError.TheVariants.{NotReady}
use Rattle.device_model.specs.declared.device.SectorDevice.{Ghosts}
use Rattle.pool_tables.specs.declared.duty.Duty.{Duty}
use Rattle.pool_threads.specs.declared.handle.Handle.{Handle}
use Rattle.pool_threads.specs.Answers.{Takes, TakesAtLast}
use Rattle.pool_threads.specs.Serves.{IsDutyTurn, IsRefusedTurn}

module _ {Dev : Type 0} {G : Ghosts Dev} where
  -- So far the handle only did what was due, in each turn, and nothing was refused but as not ready.
  abbrev pub Works : Duty → Handle Dev G → Handle Dev G → Type 0
  Works d = Takes (IsDutyTurn (IsTrue G.keeps_model) d (Some NotReady))

  -- And then a step that was due was refused so: the first one that was refused otherwise.
  abbrev pub WorksUntil : Duty → PoolError → Handle Dev G → Handle Dev G → Type 0
  WorksUntil d e = TakesAtLast (IsDutyTurn (IsTrue G.keeps_model) d (Some NotReady)) (IsRefusedTurn (IsTrue G.keeps_model) d e)
