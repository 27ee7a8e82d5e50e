-- What a command makes of a pool by its only handle it makes of what is seen of the pool, with nothing between; and it
-- goes on.
use Rattle.std.proofs.Common.{◌≡◌, ◌∙◌, ℕ, refl, sym, ap, subst}
use Rattle.std.specs.Prelude.{IsTrue, List, Option, true}
use Rattle.base.specs.declared.names.TxId.{TxId}
use Rattle.base.specs.declared.operation.Shape.{Shape}
use Rattle.base.specs.declared.step.Step.{Step}
use Rattle.base.specs.declared.step.Reply.{Reply}
use Rattle.pool_threads.specs.Handles.{HasLooked, IsBackIn, WasOf, kin_left, kin_of, moment_in, moment_of, owned_of, view_seen}
use Rattle.pool_threads.specs.Turns.{dated}
use Rattle.pool_threads.specs.Views.{GrowsTo, IsPoolStep, SeenPool, grows_onward, grows_same}
use Rattle.pool_threads.specs.declared.handle.Handle.{Handle}
use Rattle.device_model.specs.MemState.{MemState}
use Rattle.device_model.specs.contracts.memory.MemDeviceSectorDevice.TheImpl.{ghosts}
use Rattle.pool_threads.proofs.Turned.{grows_by_one}
use Rattle.scripts.proofs.CommandSteps.{by_command}
use Rattle.scripts.specs.PoolSteps.{Asks}
use Rattle.script_lines.specs.declared.command.PoolCommand.{PoolCommand}
use Rattle.script_sessions.proofs.SeenCommands.{seen_command}
use Rattle.script_sessions.specs.Callers.{AsksNext, CallsStep, LastOfMem, OwnedMemPool, StepsTo, plan_begun}
use Rattle.script_sessions.specs.Plans.{ArePlansOf, plan_seen}
use Rattle.script_sessions.specs.declared.pool_caller.PoolCaller.{PoolCaller}
use Rattle.word_lock.specs.Seats.{kin, seat_table, seen}

-- steps go on
pub steps_grow : (in_pool : ℕ) (plan_in : TxId → SeenPool → Option (List Shape)) (asked : PoolCommand) (moment : ℕ) (reply : Reply) (v w : SeenPool) → Asks (StepsTo in_pool) plan_in asked moment reply v w
    → GrowsTo (IsTrue true) v w
steps_grow in_pool = by_command (StepsTo in_pool) (GrowsTo (IsTrue true)) (grows_same (IsTrue true)) (grows_onward (IsTrue true)) (λ s. Unit {0})
    (λ s r v w it made. grows_by_one (IsTrue true) (dated in_pool s) r v v w refl made) (λ s. tt)

-- the caller's handle is the only one of its pool, the one of what was left, and its syncs get this moment
record IsOnly {W : Type 0} (last : LastOfMem) (in_pool : ℕ) (c : PoolCaller W) : Type 0 where
  of : seat_table c.handle.seat ≡ seat_table last.seat
  moment : moment_of c.handle ≡ in_pool
  only : kin_of c.handle ≡ 0

module _ {W : Type 0} (last : LastOfMem) (in_pool : ℕ) where
  by_step : (s : Step) (r : Reply) (a b : PoolCaller W) → IsOnly last in_pool a → CallsStep s r a b → IsOnly last in_pool b × StepsTo in_pool s r (view_seen a.handle) (view_seen b.handle)
  by_step s r a b only calls =
      let made = calls.1.made in
      let here : IsPoolStep (IsTrue true) (dated (moment_of a.handle) s) r (view_seen a.handle) (view_seen b.handle) =
      subst (λ (v : SeenPool). IsPoolStep (IsTrue true) (dated (moment_of a.handle) s) r v (view_seen b.handle)) (made.alone only.only) made.made in (
        record { of = calls.1.same_pool.0 ∙ only.of; moment = calls.1.same_pool.1 ∙ only.moment; only = made.met_none.0 ∙ only.only },
        subst (λ (m : ℕ). StepsTo m s r (view_seen a.handle) (view_seen b.handle)) only.moment here,
      )

-- so it is of a command that was asked by the only handle of a pool
pub record IsAskedOf (pool : OwnedMemPool) (asked : PoolCommand) (moment : ℕ) (reply : Reply) (last later : LastOfMem) : Type 0 where
  pub own : WasOf (owned_of pool) later
  pub only : kin_left later ≡ 0
  pub next : AsksNext (moment_in (owned_of pool)) asked moment reply (seen last.seat) (seen later.seat)

module _ {W : Type 0} (pool : OwnedMemPool) (last later : LastOfMem) (asked : PoolCommand) (moment : ℕ) (reply : Reply) (before after : PoolCaller W) (was : WasOf (owned_of pool) last) (only : kin_left last ≡ 0)
    (plans : ArePlansOf before.plans.now.plans.items (seen last.seat)) (back : IsBackIn (owned_of pool) last before.handle) (made : Asks CallsStep plan_begun asked moment reply before after)
    (left : later.seat ≡ after.handle.seat) where
  good : IsOnly last (moment_in (owned_of pool)) before
  good = record { of = ap (λ s. seat_table s) back.seat_is; moment = back.moment; only = ap (λ s. kin s) back.seat_is ∙ only }

  pub asked_of : IsAskedOf pool asked moment reply last later
  asked_of =
      let here = seen_command CallsStep (StepsTo (moment_in (owned_of pool))) (IsOnly last (moment_in (owned_of pool))) (λ (c : PoolCaller W). view_seen c.handle)
      (by_step last (moment_in (owned_of pool))) plan_begun plan_seen asked moment reply before after good
      (λ tx. plans tx ∙ ap (λ s. plan_seen tx (seen s)) (sym back.seat_is)) made in
      record {
        own = ap (λ s. seat_table s) left ∙ here.0.of ∙ was;
        only = ap (λ s. kin s) left ∙ here.0.only;
        next = subst (λ (v : SeenPool). AsksNext (moment_in (owned_of pool)) asked moment reply v (seen later.seat)) (ap (λ s. seen s) back.seat_is)
            (subst (λ s. AsksNext (moment_in (owned_of pool)) asked moment reply (view_seen before.handle) (seen s)) (sym left) here.1);
      }

-- and of one that looked at it
pub record IsLookedAt (pool : OwnedMemPool) (last later : LastOfMem) : Type 0 where
  pub own : WasOf (owned_of pool) later
  pub only : kin_left later ≡ 0
  pub same_view : seen later.seat ≡ seen last.seat

module _ (pool : OwnedMemPool) (last later : LastOfMem) (before after : Handle MemState ghosts) (was : WasOf (owned_of pool) last) (only : kin_left last ≡ 0) (back : IsBackIn (owned_of pool) last before)
    (looked : HasLooked before after) (left : later.seat ≡ after.seat) where
  pub looked_at : IsLookedAt pool last later
  looked_at =
      let number : kin_of before ≡ 0 = ap (λ s. kin s) back.seat_is ∙ only in
      record {
        own = ap (λ s. seat_table s) left ∙ looked.same_pool.0 ∙ ap (λ s. seat_table s) back.seat_is ∙ was;
        only = ap (λ s. kin s) left ∙ looked.met_none.0 ∙ number;
        same_view = ap (λ s. seen s) left ∙ looked.alone number ∙ ap (λ s. seen s) back.seat_is;
      }
