-- The turns of a handle that makes a transaction: it tries, it pays for a sync, and at last it ends.
use Rattle.std.proofs.Common.{◌≡◌, [], List, inl, inr, ap, sym, subst, ◌∙◌}
use Rattle.std.specs.Prelude.{ℕ, IfErr, IfNone, IfSome, IsErrAnd, IsTrue, None, Option, Result, Ok, Err, Some}
use Rattle.base.specs.declared.error.PoolError.{PoolError}
use Rattle.base.specs.declared.names.Group.{Group}
use Rattle.base.specs.declared.names.Owner.{Owner}
use Rattle.base.specs.declared.names.Receipt.{Receipt}
use Rattle.base.specs.declared.operation.Op.{Op}
use Rattle.base.specs.declared.operation.Shape.{Shape}
use Rattle.base.specs.declared.range.ObjectRange.{ObjectRange}
use Rattle.base.specs.declared.step.Reply as declared_reply
use Rattle.base.specs.declared.step.Reply.TheVariants as reply
use Rattle.base.specs.steps.Steps.{State}
use Rattle.device_model.specs.declared.device.SectorDevice.{Ghosts}
use Rattle.pool_core.specs.declared.state.PoolState.{PoolState}
use Rattle.pool_core.specs.States.{shown}
use Rattle.pool_threads.specs.declared.handle.Handle.{Handle}
use Rattle.pool_threads.specs.Answers.{Takes, TakesOne, state_seen}
use Rattle.pool_threads.specs.Handles.{moment_of}
use Rattle.pool_threads.specs.Serves.{GoesOnAfter}
use Rattle.pool_threads.specs.Transacts.{IsEarlierTurn, IsForGood, IsOpenGroupTurn, IsTransactionTurn, MakesRoom, MayPass, Pays, Transacts, TransactsAtLast, TransactsLocked, plan_of_ops}
use Rattle.pool_threads.specs.Views.{Explains, SeenPool, viewed_state}
use Rattle.pool_threads.proofs.TransactsSeen.{earlier_grows}
use Rattle.pool_threads.proofs.Tried.{at_last, one_more_turn}
use Rattle.pool_threads.proofs.Waited.{served_as}
use Rattle.transactions.specs.LockRanges.{lock_ranges}
use Rattle.word_lock.specs.Seats.{seen}
use Rattle.word_lock.specs.Turns.{turn}

module _ {Dev : Type 0} {G : Ghosts Dev} (owner : Owner) (ranges : List ObjectRange) (plan : List Shape) (ops : List Op) where
  -- so far there were only such turns
  abbrev Before : ℕ → Handle Dev G → Handle Dev G → Type 0
  Before moment = Takes (IsEarlierTurn (IsTrue G.keeps_model) moment owner ranges plan ops)

  abbrev Tries : List Op → Result Receipt PoolError → Handle Dev G → Handle Dev G → Type 0
  Tries given result = TakesOne (IsTransactionTurn (IsTrue G.keeps_model) owner ranges plan given result)

  one_earlier : (moment : ℕ) (old now next : Handle Dev G) → Before moment old now → (m : TakesOne (IsEarlierTurn (IsTrue G.keeps_model) moment owner ranges plan ops) now next) → Before moment old next
  one_earlier moment old now next t m = one_more_turn _ t m (earlier_grows (IsTrue G.keeps_model) owner ranges plan ops moment (turn m.made.took (seen next.seat)) m.made.made)

  tries_same : (given : List Op) (result : Result Receipt PoolError) (now next : Handle Dev G) → given ≡ ops → Tries given result now next → Tries ops result now next
  tries_same given result now next same m = subst (λ (x : List Op). Tries x result now next) same m

  -- one more try
  pub tried_again : (moment : ℕ) (given : List Op) (result : Result Receipt PoolError) (old now next : Handle Dev G) → given ≡ ops → IsErrAnd result (λ e. MayPass owner ranges plan e (state_seen next).shown) → Before moment old now → Tries given result now next → Before moment old next
  tried_again moment given (Ok r) old now next same again t m = absurd again
  tried_again moment given (Err e) old now next same again t m = one_earlier moment old now next t (tried_so (tries_same given (Err e) now next same m))
    where
      tried_so : Tries ops (Err e) now next → TakesOne (IsEarlierTurn (IsTrue G.keeps_model) moment owner ranges plan ops) now next
      tried_so one = record {
        same_pool = one.same_pool;
        made = record { took = one.made.took; onward = one.made.onward; made = inl (e, again, one.made.made); turn = one.made.turn; met_none = one.made.met_none; alone = one.made.alone };
      }

  -- one more turn of a sync
  pub paid_more : (moment : ℕ) (old now next : Handle Dev G) → Before moment old now → Pays moment (Ok tt) now next → Before moment old next
  paid_more moment old now next t m = one_earlier moment old now next t (served_as (λ u made. inr made) m)

  -- the last try
  pub ended_so : (given : List Op) (result : Result Receipt PoolError) (old now new : Handle Dev G) → given ≡ ops → IfErr result (λ e. IsForGood owner ranges plan e (state_seen new).shown) → Before (moment_of old) old now → Tries given result now new
      → TransactsAtLast owner ranges plan ops result old new
  ended_so given result old now new same for_good t m = by result for_good (tries_same given result now new same m)
    where
      by : (x : Result Receipt PoolError) → IfErr x (λ e. IsForGood owner ranges plan e (state_seen new).shown) → Tries ops x now new → TransactsAtLast owner ranges plan ops x old new
      by (Ok r) last one = at_last _ t (served_as (λ u made. made) one)
      by (Err e) last one = at_last _ t (record {
        same_pool = one.same_pool;
        made = record { took = one.made.took; onward = one.made.onward; made = inl (one.made.made, last); turn = one.made.turn; met_none = one.made.met_none; alone = one.made.alone };
      })

  -- or a step of a sync was refused
  pub payment_refused : (e : PoolError) (result : Result Receipt PoolError) (old now new : Handle Dev G) → IsErrAnd result (λ f. f ≡ e) → Before (moment_of old) old now → Pays (moment_of old) (Err e) now new → TransactsAtLast owner ranges plan ops result old new
  payment_refused e (Ok r) old now new is t m = absurd is
  payment_refused e (Err f) old now new is t m =
      subst (λ (x : PoolError). TransactsAtLast owner ranges plan ops (Err x) old new) (sym is) (at_last _ t (served_as (λ u made. inr made) m))

module _ {Dev : Type 0} {G : Ghosts Dev} (owner : Owner) (ops : List Op) (result : Result Receipt PoolError) (old new : Handle Dev G) where
  -- a transaction under the ranges of its operations' plan, and one without ranges
  pub made_of : (ranges : List ObjectRange) (plan : List Shape) → plan ≡ plan_of_ops ops → ranges ≡ lock_ranges plan → TransactsAtLast owner ranges plan ops result old new → Transacts owner ops result old new
  made_of ranges plan plan_is ranges_are u =
      subst (λ (p : List Shape). TransactsAtLast owner (lock_ranges p) p ops result old new) plan_is (subst (λ (rs : List ObjectRange). TransactsAtLast owner rs plan ops result old new) ranges_are u)

  pub locked_of : (plan : List Shape) → plan ≡ plan_of_ops ops → TransactsAtLast owner [] plan ops result old new → TransactsLocked owner ops result old new
  locked_of plan plan_is u = subst (λ (p : List Shape). TransactsAtLast owner [] p ops result old new) plan_is u

-- what is open of a pool is open by a view that explains it
pub open_seen : {Dev : Type 0} {G : Ghosts Dev} (p : PoolState Dev G) (v : SeenPool) (group : Group) → Explains p v → group.0 ≡ (shown p).line.open_group → group.0 ≡ (viewed_state v).shown.line.open_group
open_seen p v group x is = is ∙ ap (λ (a : State). a.shown.line.open_group) (sym x.state)

module _ {Dev : Type 0} {G : Ghosts Dev} (moment : ℕ) (r : Option declared_reply.Reply) (now next : Handle Dev G) where
  -- such a turn, in which nothing was refused, and one in which the last step was
  pub was_paid : GoesOnAfter None r → TakesOne (IsOpenGroupTurn (IsTrue G.keeps_model) moment r) now next → Pays moment (Ok tt) now next
  was_paid passed m = served_as (λ t made. (r, passed, made)) m

  pub payment_was_refused : (e : PoolError) → r ≡ Some (reply.Refused e) → TakesOne (IsOpenGroupTurn (IsTrue G.keeps_model) moment r) now next → Pays moment (Err e) now next
  payment_was_refused e is m = subst (λ (x : Option declared_reply.Reply). TakesOne (IsOpenGroupTurn (IsTrue G.keeps_model) moment x) now next) is m

-- room was made by such a turn
pub room_by_payment : {Dev : Type 0} {G : Ghosts Dev} (moment : ℕ) (result : Result (Unit {0}) PoolError) (now next : Handle Dev G) → Pays moment result now next → MakesRoom moment result now next
room_by_payment moment (Ok done) now next m = inr m
room_by_payment moment (Err e) now next m = m

module _ {Dev : Type 0} {G : Ghosts Dev} (owner : Owner) (ranges : List ObjectRange) (plan : List Shape) (ops given : List Op) (result : Result Receipt PoolError) (o : Option (List Op)) (old now : Handle Dev G) where
  -- a try with its operations, which came back or did not
  pub tried_on : (moment : ℕ) (back : List Op) (next : Handle Dev G) → o ≡ Some back → IfSome o (λ b. (b ≡ given) × IsErrAnd result (λ e. MayPass owner ranges plan e (state_seen next).shown)) → given ≡ ops → Takes (IsEarlierTurn (IsTrue G.keeps_model) moment owner ranges plan ops) old now
      → TakesOne (IsTransactionTurn (IsTrue G.keeps_model) owner ranges plan given result) now next → Takes (IsEarlierTurn (IsTrue G.keeps_model) moment owner ranges plan ops) old next × (back ≡ ops)
  tried_on moment back next is again same t m =
      let there = subst (λ x. IfSome x (λ b. (b ≡ given) × IsErrAnd result (λ e. MayPass owner ranges plan e (state_seen next).shown))) is again in
      (tried_again owner ranges plan ops moment given result old now next same there.1 t m, there.0 ∙ same)

  pub tried_last : (new : Handle Dev G) → o ≡ None → IfNone o (IfErr result (λ e. IsForGood owner ranges plan e (state_seen new).shown)) → given ≡ ops → Takes (IsEarlierTurn (IsTrue G.keeps_model) (moment_of old) owner ranges plan ops) old now
      → TakesOne (IsTransactionTurn (IsTrue G.keeps_model) owner ranges plan given result) now new → TransactsAtLast owner ranges plan ops result old new
  tried_last new is for_good same t m = ended_so owner ranges plan ops given result old now new same (subst (λ x. IfNone x (IfErr result (λ e. IsForGood owner ranges plan e (state_seen new).shown))) is for_good) t m

  -- and then room was made
  pub room_made : (moment : ℕ) (next : Handle Dev G) → Takes (IsEarlierTurn (IsTrue G.keeps_model) moment owner ranges plan ops) old now → MakesRoom moment (Ok tt) now next → Takes (IsEarlierTurn (IsTrue G.keeps_model) moment owner ranges plan ops) old next
  room_made moment next t (inl same) = subst (λ (h : Handle Dev G). Takes (IsEarlierTurn (IsTrue G.keeps_model) moment owner ranges plan ops) old h) (sym same) t
  room_made moment next t (inr paid) = paid_more owner ranges plan ops moment old now next t paid
