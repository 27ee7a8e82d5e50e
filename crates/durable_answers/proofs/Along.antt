-- A handle that makes the calls of a frame stays in its pool, and sees what goes on from what it had seen.
use Rattle.std.proofs.Common.{inl, inr}
use Rattle.std.specs.Prelude.{IsTrue, None, Option, Result, Ok, Err, Some}
use Rattle.base.specs.declared.error.PoolError.{PoolError}
use Rattle.base.specs.declared.step.Reply as declared_reply
use Rattle.base.specs.declared.step.Reply.TheVariants as reply
use Rattle.device_model.specs.declared.device.SectorDevice.{Ghosts}
use Rattle.pool_tables.specs.declared.duty.Duty.TheVariants as duty
use Rattle.pool_threads.specs.declared.handle.Handle.{Handle}
use Rattle.pool_threads.specs.Objects.{IsListRefusal}
use Rattle.pool_threads.specs.Views.{grows_onward}
use Rattle.pool_threads.specs.Waits.{EndsFsync, FsyncsAll, WritesLogInTurn}
use Rattle.pool_threads.proofs.Along.{GoesAlong, along_on, along_same}
use Rattle.pool_threads.proofs.Served.{grows_by_due}
use Rattle.running_pools.proofs.Along.{along_looked, along_syncs}
use Rattle.word_lock.specs.Seats.{seen}

module _ {Dev : Type 0} {G : Ghosts Dev} where
  pub along_lists : (e : PoolError) (old new : Handle Dev G) → IsListRefusal e old new → GoesAlong old new
  along_lists e old new (inl (lacks, same)) = along_same old new same
  along_lists e old new (inr (suspended, looked, is)) = along_looked old new looked

  along_writes : (r : Option declared_reply.Reply) (old new : Handle Dev G) → WritesLogInTurn r old new → GoesAlong old new
  along_writes r old new w = record {
    same_pool = w.same_pool;
    onward = grows_onward (IsTrue G.keeps_model) (seen old.seat) w.made.took (seen new.seat) w.made.onward (grows_by_due (IsTrue G.keeps_model) duty.CommitLog r w.made.took (seen new.seat) w.made.made);
    met_none = w.made.met_none;
  }

  along_ends : (outcome : Option (Result (Unit {0}) PoolError)) (result : Result (Unit {0}) PoolError) (wrote new : Handle Dev G) → EndsFsync outcome result wrote new → GoesAlong wrote new
  along_ends (Some ended) result wrote new ends = along_same wrote new ends.1
  along_ends None (Ok done) wrote new ends = along_syncs (Ok ends.0) wrote new ends.1
  along_ends None (Err e) wrote new ends = along_syncs (Err e) wrote new ends

  pub along_fsyncs : (result : Result (Unit {0}) PoolError) (old new : Handle Dev G) → FsyncsAll result old new → GoesAlong old new
  along_fsyncs result old new f = along_on old f.wrote new (along_writes f.reply old f.wrote f.writes) (along_ends f.outcome result f.wrote new f.ends)
