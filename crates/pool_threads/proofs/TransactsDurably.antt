-- A transaction, and then the wait for it.
use Rattle.std.proofs.Common.{List, refl}
use Rattle.std.specs.Prelude.{IfOk, Ok, Err, Option, Result}
use Rattle.base.specs.declared.error.PoolError.{PoolError}
use Rattle.base.specs.declared.names.Owner.{Owner}
use Rattle.base.specs.declared.names.Receipt.{Receipt}
use Rattle.base.specs.declared.operation.Op.{Op}
use Rattle.device_model.specs.declared.device.SectorDevice.{Ghosts}
use Rattle.pool_threads.specs.declared.handle.Handle.{Handle}
use Rattle.pool_threads.specs.Answers.{Sees}
use Rattle.pool_threads.specs.Transacts.{IsTransacted, TransactsDurably}
use Rattle.pool_threads.specs.Views.{grows_onward}
use Rattle.pool_threads.specs.Waits.{LeavesDurable, WaitsForFlush}
use Rattle.pool_threads.proofs.Along.{GoesAlong, along_same}
use Rattle.pool_threads.proofs.TransactsSeen.{entered_by}
use Rattle.pool_threads.proofs.Waited.{flush_wait}
use Rattle.pool_threads.proofs.WaitsSeen.{durable_seen}

module _ {Dev : Type 0} {G : Ghosts Dev} where
  along_waits : (receipt : Receipt) (result : Result (Unit {0}) PoolError) (old new : Handle Dev G) → WaitsForFlush receipt result old new → GoesAlong old new
  along_waits receipt result old new w =
      let turns = flush_wait receipt result w in
      record { same_pool = turns.same_pool; onward = grows_onward _ _ _ _ turns.made.onward turns.made.made.0; met_none = turns.made.met_none }

  module _ (owner : Owner) (ops : List Op) where
    pub durably_entered : (result : Result Receipt (PoolError × Option Receipt)) (old new : Handle Dev G) → TransactsDurably owner ops result old new → IfOk result (λ r. Sees (IsTransacted ops r) old new)
    durably_entered (Ok r) old new t = entered_by owner ops r old old t.done new (along_same old old refl) t.transacts (along_waits r (Ok tt) t.done new t.waits)
    durably_entered (Err e) old new t = tt

    pub durably_durable : (result : Result Receipt (PoolError × Option Receipt)) (old new : Handle Dev G) → TransactsDurably owner ops result old new → IfOk result (λ r. Sees (LeavesDurable r) old new)
    durably_durable (Ok r) old new t = durable_seen r (Ok tt) t.done new t.waits
    durably_durable (Err e) old new t = tt
