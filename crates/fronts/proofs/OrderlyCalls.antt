-- Each call of a handle that makes whole transactions, or commits nothing, has orderly turns and no others.
use Rattle.std.proofs.Common.{◌≡◌, ◌++◌, ◌∷◌, [], ℕ, List, Ok, Err, false, inl, inr, refl, subst, sym}
use Rattle.std.specs.Prelude.{IsTrue, None, Option, Result, Some}
use Rattle.base.specs.declared.error.PoolError.{PoolError}
use Rattle.base.specs.declared.error.PoolError.TheVariants.{NotReady}
use Rattle.base.specs.declared.names.Group.{Group}
use Rattle.base.specs.declared.names.ObjectId.{ObjectId}
use Rattle.base.specs.declared.names.Owner.{Owner}
use Rattle.base.specs.declared.names.Receipt.{Receipt}
use Rattle.base.specs.declared.operation.Op.{Op}
use Rattle.base.specs.declared.operation.Shape.{Shape}
use Rattle.base.specs.declared.range.ObjectRange.{ObjectRange}
use Rattle.base.specs.declared.range.Range.{Range}
use Rattle.base.specs.declared.step.Reply as declared_reply
use Rattle.base.specs.declared.step.Reply.TheVariants as reply
use Rattle.base.specs.declared.step.Step as declared_step
use Rattle.base.specs.declared.step.Step.TheVariants as step
use Rattle.device_model.specs.declared.device.SectorDevice.{Ghosts}
use Rattle.pool_tables.specs.declared.duty.Duty.{Duty}
use Rattle.pool_tables.specs.declared.duty.Duty.TheVariants as duty
use Rattle.pool_threads.specs.declared.handle.Handle.{Handle}
use Rattle.pool_threads.specs.Answers.{Makes, MakesAtLast, TakesAtLast, TakesOne}
use Rattle.pool_threads.specs.Fetches.{Fetches, IsFetchTurn}
use Rattle.pool_threads.specs.Handles.{HasLooked, moment_of, view_seen}
use Rattle.pool_threads.specs.Serves.{IsDutyTurn, IsRefusedTurn, IsServedTurn}
use Rattle.pool_threads.specs.Loops.{WorksUntil}
use Rattle.pool_threads.specs.LongWrites.{TransactsInOrder, WritesInPieces, writes_of}
use Rattle.pool_threads.specs.Transacts.{IsEarlierTurn, IsLastTurn, TransactsAtLast, TransactsDurably, TransactsLockedOrLacks, TransactsOrLacks, TransactsThenWaits, plan_of_ops}
use Rattle.pool_threads.specs.Turns.{IsStepTurn}
use Rattle.pool_threads.specs.Views.{GrowsTo, SeenPool, grows_onward, grows_same}
use Rattle.pool_threads.specs.Waits.{EndsFsync, EndsSyncing, FsyncsAll, IsSyncTurn, SyncsPool, SyncsUpTo, WaitsForFlush}
use Rattle.pool_threads.proofs.Along.{one_grows}
use Rattle.pool_threads.proofs.Looked.{looked_one}
use Rattle.pool_threads.proofs.Tried.{no_turns, one_more_turn}
use Rattle.pool_threads.proofs.Waited.{LeadsOn, all_alike, as_flush_wait, ends_as, flush_wait, served_as, takes_as, takes_on}
use Rattle.transactions.specs.LockRanges.{lock_ranges}
use Rattle.word_lock.specs.declared.rule.Turn.{Turn}
use Rattle.word_lock.specs.Turns.{turn}
use Rattle.fronts.specs.RisingPools.{is_commit}
use Rattle.fronts.specs.RisingPools.CommitsNothing.{by_fetch, by_fsync, by_fsync_all, by_look, by_loop, by_loop_until, by_no_step, by_step, by_step_at_last, by_sync_pool}
use Rattle.fronts.specs.RisingPools.MakesTransactions.{by_transact, by_transact_durably, by_transact_locked, by_write_long}
use Rattle.fronts.specs.SharedPools.{IsOrderlyTurn, OtherCallsTakeOrderlyTurns, TakesOrderlyTurns, TransactsTakeOrderlyTurns}
use Rattle.fronts.specs.SharedPools.IsOrderlyTurn.{by_duty, by_no_change, by_one_step, by_read, by_transaction}
use Rattle.fronts.proofs.OverTurns.{over_orderly}

-- a refused step is no commit
refused_is_none : (s : declared_step.Step) (e : PoolError) → is_commit s (reply.Refused e) ≡ false
refused_is_none (step.Commit tx ops) e = refl
refused_is_none _ e = refl

-- which turns are orderly
module _ (keeps : Type 0) where
  duty_is : (d : Duty) (passed : Option PoolError) (t : Turn SeenPool) → IsDutyTurn keeps d passed t → IsOrderlyTurn keeps t
  duty_is d passed t (r, passes, made) = by_duty d r made

  last_sync_is : (moment : ℕ) (group : Group) (result : Result (Unit {0}) PoolError) (t : Turn SeenPool) → EndsSyncing keeps moment group result t → IsOrderlyTurn keeps t
  last_sync_is moment group (Ok done) t (is, synced) = duty_is (duty.SyncUpTo group moment) None t is
  last_sync_is moment group (Err e) t made = by_duty (duty.SyncUpTo group moment) (Some (reply.Refused e)) made

  wait_is : (t : Turn SeenPool) → LeadsOn keeps t → IsOrderlyTurn keeps t
  wait_is t (leads, inl is) = by_no_change is
  wait_is t (leads, inr (d, r, made)) = by_duty d r made

  module _ (moment : ℕ) (owner : Owner) (ranges : List ObjectRange) (plan : List Shape) (ops : List Op) where
    earlier_is : (t : Turn SeenPool) → IsEarlierTurn keeps moment owner ranges plan ops t → IsOrderlyTurn keeps t
    earlier_is t (inl (e, again, made)) = by_transaction owner ranges plan ops (Err e) made
    earlier_is t (inr (r, passed, (group, is, made))) = by_duty (duty.SyncUpTo group moment) r made

    last_is : (result : Result Receipt PoolError) (t : Turn SeenPool) → IsLastTurn keeps moment owner ranges plan ops result t → IsOrderlyTurn keeps t
    last_is (Ok r) t made = by_transaction owner ranges plan ops (Ok r) made
    last_is (Err e) t (inl (made, for_good)) = by_transaction owner ranges plan ops (Err e) made
    last_is (Err e) t (inr (group, is, made)) = by_duty (duty.SyncUpTo group moment) (Some (reply.Refused e)) made

  -- each leads on
  orderly_grows : (t : Turn SeenPool) → IsOrderlyTurn keeps t → GrowsTo keeps t.took t.left
  orderly_grows =
      over_orderly keeps (GrowsTo keeps) (λ v w is. subst (GrowsTo keeps v) (sym is) (grows_same keeps v)) (grows_onward keeps) (λ s r v w none made. one_grows made)
      (λ owner plan tx group ops receipt v m w begins ends. grows_onward keeps v m w (one_grows begins) (one_grows ends))

-- which calls have orderly turns, and no others
module _ {Dev : Type 0} {G : Ghosts Dev} where
  no_turn_is : (old new : Handle Dev G) → new ≡ old → TakesOrderlyTurns old new
  no_turn_is old new is = subst (λ (h : Handle Dev G). TakesOrderlyTurns old h) (sym is) (no_turns (IsOrderlyTurn (IsTrue G.keeps_model)) old)

  one_is : (P : Turn SeenPool → Type 0) → ((t : Turn SeenPool) → P t → IsOrderlyTurn (IsTrue G.keeps_model) t) → (old new : Handle Dev G) → TakesOne P old new → TakesOrderlyTurns old new
  one_is P each old new m =
      one_more_turn (IsOrderlyTurn (IsTrue G.keeps_model)) (no_turns (IsOrderlyTurn (IsTrue G.keeps_model)) old) (served_as each m)
      (orderly_grows (IsTrue G.keeps_model) (turn m.made.took (view_seen new)) (each (turn m.made.took (view_seen new)) m.made.made))

  at_last_is : (P Q : Turn SeenPool → Type 0) → ((t : Turn SeenPool) → P t → IsOrderlyTurn (IsTrue G.keeps_model) t) → ((t : Turn SeenPool) → Q t → IsOrderlyTurn (IsTrue G.keeps_model) t) → (old new : Handle Dev G) → TakesAtLast P Q old new → TakesOrderlyTurns old new
  at_last_is P Q each last old new m = all_alike (λ t is. (is, orderly_grows (IsTrue G.keeps_model) t is)) (ends_as each last m)

  step_is : (s : declared_step.Step) (r : declared_reply.Reply) (old new : Handle Dev G) → is_commit s r ≡ false → Makes s r old new → TakesOrderlyTurns old new
  step_is s r old new none m = one_is (IsStepTurn (IsTrue G.keeps_model) s r) (λ t made. by_one_step s r none made) old new m

  step_at_last_is : (s : declared_step.Step) (e : PoolError) (r : declared_reply.Reply) (old new : Handle Dev G) → is_commit s r ≡ false → MakesAtLast s e r old new → TakesOrderlyTurns old new
  step_at_last_is s e r old new none m =
      at_last_is (IsStepTurn (IsTrue G.keeps_model) s (reply.Refused e)) (IsStepTurn (IsTrue G.keeps_model) s r) (λ t made. by_one_step s (reply.Refused e) (refused_is_none s e) made) (λ t made. by_one_step s r none made) old new m

  look_is : (old new : Handle Dev G) → HasLooked old new → TakesOrderlyTurns old new
  look_is old new h = one_is (λ t. t.left ≡ t.took) (λ t is. by_no_change is) old new (looked_one {P = λ t. t.left ≡ t.took} h refl)

  up_to_is : (group : Group) (result : Result (Unit {0}) PoolError) (old new : Handle Dev G) → SyncsUpTo group result old new → TakesOrderlyTurns old new
  up_to_is group result old new u =
      at_last_is (IsSyncTurn (IsTrue G.keeps_model) (moment_of old) group) (EndsSyncing (IsTrue G.keeps_model) (moment_of old) group result) (duty_is (IsTrue G.keeps_model) (duty.SyncUpTo group (moment_of old)) None) (last_sync_is (IsTrue G.keeps_model) (moment_of old) group result) old new u

  sync_is : (answer : Result Group PoolError) (old new : Handle Dev G) → SyncsPool answer old new → TakesOrderlyTurns old new
  sync_is answer old new s = takes_on (look_is old s.looked s.looks) (up_to_is s.group s.result s.looked new s.syncs)

  flush_is : (receipt : Receipt) (result : Result (Unit {0}) PoolError) (old new : Handle Dev G) → WaitsForFlush receipt result old new → TakesOrderlyTurns old new
  flush_is receipt result old new w = takes_as (wait_is (IsTrue G.keeps_model)) (all_alike (λ t leads. (leads, leads.0)) (flush_wait receipt result w))

  fsync_end_is : (outcome : Option (Result (Unit {0}) PoolError)) (result : Result (Unit {0}) PoolError) (wrote new : Handle Dev G) → EndsFsync outcome result wrote new → TakesOrderlyTurns wrote new
  fsync_end_is (Some ended) result wrote new (is, stays) = no_turn_is wrote new stays
  fsync_end_is None (Ok done) wrote new (group, s) = sync_is (Ok group) wrote new s
  fsync_end_is None (Err e) wrote new s = sync_is (Err e) wrote new s

  fsync_all_is : (result : Result (Unit {0}) PoolError) (old new : Handle Dev G) → FsyncsAll result old new → TakesOrderlyTurns old new
  fsync_all_is result old new f =
      takes_on (one_is (IsServedTurn (IsTrue G.keeps_model) duty.CommitLog f.reply) (λ t made. by_duty duty.CommitLog f.reply made) old f.wrote f.writes) (fsync_end_is f.outcome result f.wrote new f.ends)

  fetch_is : (owner : Owner) (object : ObjectId) (range : Range) (result : Result (List ℕ) PoolError) (old new : Handle Dev G) → Fetches owner object range result old new → TakesOrderlyTurns old new
  fetch_is owner object range result old new f =
      at_last_is (IsFetchTurn (IsTrue G.keeps_model) owner object range None) (IsFetchTurn (IsTrue G.keeps_model) owner object range (Some result)) (λ t made. by_read owner object range None made) (λ t made. by_read owner object range (Some result) made) old new f

  loop_end_is : (d : Duty) (e : PoolError) (old new : Handle Dev G) → WorksUntil d e old new → TakesOrderlyTurns old new
  loop_end_is d e old new w =
      at_last_is (IsDutyTurn (IsTrue G.keeps_model) d (Some NotReady)) (IsRefusedTurn (IsTrue G.keeps_model) d e) (duty_is (IsTrue G.keeps_model) d (Some NotReady)) (λ t made. by_duty d (Some (reply.Refused e)) made) old new w

  pub other_calls_take_orderly_turns : OtherCallsTakeOrderlyTurns G
  other_calls_take_orderly_turns old new (by_no_step is) = no_turn_is old new is
  other_calls_take_orderly_turns old new (by_step s r none m) = step_is s r old new none m
  other_calls_take_orderly_turns old new (by_step_at_last s e r none m) = step_at_last_is s e r old new none m
  other_calls_take_orderly_turns old new (by_look h) = look_is old new h
  other_calls_take_orderly_turns old new (by_fetch owner object range result f) = fetch_is owner object range result old new f
  other_calls_take_orderly_turns old new (by_sync_pool answer s) = sync_is answer old new s
  other_calls_take_orderly_turns old new (by_fsync receipt result w) = flush_is receipt result old new (as_flush_wait receipt result old new w)
  other_calls_take_orderly_turns old new (by_fsync_all result f) = fsync_all_is result old new f
  other_calls_take_orderly_turns old new (by_loop d w) = takes_as (duty_is (IsTrue G.keeps_model) d (Some NotReady)) w
  other_calls_take_orderly_turns old new (by_loop_until d e w) = loop_end_is d e old new w

  -- those that make transactions
  module _ (owner : Owner) (ranges : List ObjectRange) (plan : List Shape) (ops : List Op) where
    transaction_is : (result : Result Receipt PoolError) (old new : Handle Dev G) → TransactsAtLast owner ranges plan ops result old new → TakesOrderlyTurns old new
    transaction_is result old new u =
        at_last_is (IsEarlierTurn (IsTrue G.keeps_model) (moment_of old) owner ranges plan ops) (IsLastTurn (IsTrue G.keeps_model) (moment_of old) owner ranges plan ops result)
        (earlier_is (IsTrue G.keeps_model) (moment_of old) owner ranges plan ops) (last_is (IsTrue G.keeps_model) (moment_of old) owner ranges plan ops result) old new u

  transact_is : (owner : Owner) (ops : List Op) (result : Result Receipt PoolError) (old new : Handle Dev G) → TransactsOrLacks owner ops result old new → TakesOrderlyTurns old new
  transact_is owner ops result old new (inl u) = transaction_is owner (lock_ranges (plan_of_ops ops)) (plan_of_ops ops) ops result old new u
  transact_is owner ops result old new (inr (lacks, stays)) = no_turn_is old new stays

  locked_is : (owner : Owner) (ops : List Op) (result : Result Receipt PoolError) (old new : Handle Dev G) → TransactsLockedOrLacks owner ops result old new → TakesOrderlyTurns old new
  locked_is owner ops result old new (inl u) = transaction_is owner [] (plan_of_ops ops) ops result old new u
  locked_is owner ops result old new (inr (lacks, stays)) = no_turn_is old new stays

  then_waited_is : (owner : Owner) (ops : List Op) (receipt : Receipt) (result : Result (Unit {0}) PoolError) (old new : Handle Dev G) → TransactsThenWaits owner ops receipt result old new → TakesOrderlyTurns old new
  then_waited_is owner ops receipt result old new t = takes_on (transact_is owner ops (Ok receipt) old t.done t.transacts) (flush_is receipt result t.done new t.waits)

  durably_is : (owner : Owner) (ops : List Op) (result : Result Receipt (PoolError × Option Receipt)) (old new : Handle Dev G) → TransactsDurably owner ops result old new → TakesOrderlyTurns old new
  durably_is owner ops (Ok r) old new t = then_waited_is owner ops r (Ok tt) old new t
  durably_is owner ops (Err (e, Some r)) old new t = then_waited_is owner ops r (Err e) old new t
  durably_is owner ops (Err (e, None)) old new (t, nothing) = transact_is owner ops (Err e) old new t

  in_order_is : (owner : Owner) (all : List (List Op)) (receipts : List Receipt) (result : Result (Unit {0}) PoolError) (old new : Handle Dev G) → TransactsInOrder owner all receipts result old new → TakesOrderlyTurns old new
  in_order_is owner [] receipts result old new (none, is, stays) = no_turn_is old new stays
  in_order_is owner (ops ∷ rest) [] result old new (e, is, t) = transact_is owner ops (Err e) old new t
  in_order_is owner (ops ∷ rest) (r ∷ rs) result old new (next, t, more) = takes_on (transact_is owner ops (Ok r) old next t) (in_order_is owner rest rs result next new more)

  in_pieces_is : (owner : Owner) (object : ObjectId) (offset : ℕ) (bytes : List ℕ) (result : Result Receipt (PoolError × ℕ)) (old new : Handle Dev G) → WritesInPieces owner object offset bytes result old new → TakesOrderlyTurns old new
  in_pieces_is owner object offset bytes (Ok last) old new (earlier, t) = in_order_is owner (writes_of object offset bytes) (earlier ++ last ∷ []) (Ok tt) old new t
  in_pieces_is owner object offset bytes (Err (e, committed)) old new (receipts, is, t) = in_order_is owner (writes_of object offset bytes) receipts (Err e) old new t

  pub transacts_take_orderly_turns : TransactsTakeOrderlyTurns G
  transacts_take_orderly_turns old new (by_transact owner ops result t) = transact_is owner ops result old new t
  transacts_take_orderly_turns old new (by_transact_locked owner ops result t) = locked_is owner ops result old new t
  transacts_take_orderly_turns old new (by_transact_durably owner ops result t) = durably_is owner ops result old new t
  transacts_take_orderly_turns old new (by_write_long owner object offset bytes result t) = in_pieces_is owner object offset bytes result old new t
