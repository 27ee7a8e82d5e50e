-- A handle that commits a transaction or syncs stays in its pool, and sees what goes on from what it had seen.
use Rattle.std.proofs.Common.{List, inl, inr}
use Rattle.std.specs.Prelude.{ℕ, IsTrue, Option, Result, Ok, Err, Some}
use Rattle.base.specs.declared.error.PoolError.{PoolError}
use Rattle.base.specs.declared.names.Group.{Group}
use Rattle.base.specs.declared.names.Owner.{Owner}
use Rattle.base.specs.declared.names.Receipt.{Receipt}
use Rattle.base.specs.declared.operation.Op.{Op}
use Rattle.base.specs.declared.step.Reply.TheVariants as reply
use Rattle.device_model.specs.declared.device.SectorDevice.{Ghosts}
use Rattle.pool_tables.specs.declared.duty.Duty.TheVariants as duty
use Rattle.pool_threads.specs.declared.handle.Handle.{Handle}
use Rattle.pool_threads.specs.Handles.{HasLooked, moment_of}
use Rattle.pool_threads.specs.Transacts.{TransactsOrLacks, plan_of_ops}
use Rattle.pool_threads.specs.Views.{GrowsTo, SeenPool, grows_onward}
use Rattle.pool_threads.specs.Waits.{EndsSyncing, SyncsPool, SyncsUpTo}
use Rattle.pool_threads.proofs.Along.{GoesAlong, along_on, along_same}
use Rattle.pool_threads.proofs.TransactsSeen.{at_last_along}
use Rattle.pool_threads.proofs.Served.{grows_by_due}
use Rattle.transactions.specs.LockRanges.{lock_ranges}
use Rattle.word_lock.specs.declared.rule.Turn.{Turn}
use Rattle.word_lock.specs.Seats.{seen}
use Rattle.word_lock.specs.Turns.{turn}

-- the last turn of a sync leads on
syncing_grows : (keeps : Type 0) (moment : ℕ) (group : Group) (result : Result (Unit {0}) PoolError) (t : Turn SeenPool) → EndsSyncing keeps moment group result t → GrowsTo keeps t.took t.left
syncing_grows keeps moment group (Ok done) t ends = grows_by_due keeps (duty.SyncUpTo group moment) ends.0.0 t.took t.left ends.0.2
syncing_grows keeps moment group (Err e) t ends = grows_by_due keeps (duty.SyncUpTo group moment) (Some (reply.Refused e)) t.took t.left ends

module _ {Dev : Type 0} {G : Ghosts Dev} where
  pub along_looked : (old new : Handle Dev G) → HasLooked old new → GoesAlong old new
  along_looked old new l = record { same_pool = l.same_pool; onward = l.onward; met_none = l.met_none }

  pub along_transacts : (owner : Owner) (ops : List Op) (result : Result Receipt PoolError) (old new : Handle Dev G) → TransactsOrLacks owner ops result old new → GoesAlong old new
  along_transacts owner ops result old new (inl u) = at_last_along owner (lock_ranges (plan_of_ops ops)) (plan_of_ops ops) ops result old new u
  along_transacts owner ops result old new (inr (lacks, same)) = along_same old new same

  along_up_to : (group : Group) (result : Result (Unit {0}) PoolError) (old new : Handle Dev G) → SyncsUpTo group result old new → GoesAlong old new
  along_up_to group result old new u = record {
    same_pool = u.same_pool;
    onward = grows_onward (IsTrue G.keeps_model) (seen old.seat) u.made.took (seen new.seat) u.made.onward (syncing_grows (IsTrue G.keeps_model) (moment_of old) group result (turn u.made.took (seen new.seat)) u.made.made);
    met_none = u.made.met_none;
  }

  pub along_syncs : (answer : Result Group PoolError) (old new : Handle Dev G) → SyncsPool answer old new → GoesAlong old new
  along_syncs answer old new s = along_on old s.looked new (along_looked old s.looked s.looks) (along_up_to s.group s.result s.looked new s.syncs)
