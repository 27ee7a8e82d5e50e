-- A step of the pool under the lock leads from a view that explains it to one that does.
use Rattle.std.proofs.Common.{◌≡◌, ℕ, refl, ap, sym, ◌∙◌, subst, [], ◌∷◌}
use Rattle.std.specs.Prelude.{IsTrue}
use Rattle.std.proofs.Math.Logic.{∥∥₁_map}
use Rattle.base.specs.declared.step.Step as declared_step
use Rattle.base.specs.declared.step.Reply as declared_reply
use Rattle.base.specs.declared.step.Step.TheVariants as step
use Rattle.base.specs.declared.step.Reply.TheVariants as reply
use Rattle.base.specs.disk.Disk.{Disk}
use Rattle.base.specs.history.Past.{Past}
use Rattle.base.specs.steps.Additions.{past_after}
use Rattle.base.specs.steps.Tables.{AreTablesExplained}
use Rattle.base.specs.steps.Steps.{State}
use Rattle.device_model.specs.declared.device.SectorDevice.{Ghosts}
use Rattle.pool_core.specs.declared.state.PoolState.{PoolState}
use Rattle.pool_tables.specs.Told.{state_with}
use Rattle.pool_core.specs.KeptSafe.{IsKeptSafe, IsSafeStep, KeepsSafe, disk_of, on_disk}
use Rattle.pool_core.specs.States.{told}
use Rattle.pool_core.specs.StepReplies.{IsStep}
use Rattle.pool_core.specs.Turns.{Turns}
use Rattle.pool_threads.specs.Views.{Explains, GrowsTo, IsPoolStep, IsSafeBetween, IsStepOn, MovesDisk, SeenPool, since, view_after, view_of, viewed_state}
use Rattle.pool_threads.proofs.Moved.{moved_on}

-- a state, of a pool whose create began at this moment
abbrev at_create : ℕ → State → State
at_create created a = record a { past = since created a.past }

-- what a step adds to the past has nothing to do with that moment
since_after : (created : ℕ) (s : declared_step.Step) (r : declared_reply.Reply) (a : State) → past_after s r (at_create created a) ≡ since created (past_after s r a)
since_after created (step.Lock owner n range mode) (reply.Locked id) a = refl
since_after created (step.LockAppend owner n) (reply.Appended id range) a = refl
since_after created (step.Unlock owner id) reply.Done a = refl
since_after created (step.Begin owner plan) (reply.Began tx group) a = refl
since_after created (step.Commit tx ops) (reply.Committed receipt) a = refl
since_after created (step.Abort tx) reply.Done a = refl
since_after created step.SyncStep (reply.Synced group) a = refl
since_after created step.LogFlush reply.Flushed a = refl
since_after created _ _ a = refl

module _ {Dev : Type 0} {G : Ghosts Dev} (s : declared_step.Step) (r : declared_reply.Reply) (old new : PoolState Dev G) (turns : Turns s r old new)
    (safe : IsTrue G.keeps_model → KeepsSafe s r old new) (moves : IsTrue G.keeps_model → MovesDisk s (disk_of old) (disk_of new)) where
  -- the state before the step with a past, and the one after it
  abbrev before : Past → State
  before past = state_with (told old) past

  abbrev later : Past → Past
  later past = past_after s r (before past)

  abbrev after : Past → State
  after past = state_with (told new) (later past)

  -- so it is of a pool whose create began at this moment, of which the crash rule stands
  module _ (created : ℕ) (past : Past) (keeps : IsTrue G.keeps_model) (kept : IsKeptSafe (on_disk old (since created past))) where
    later_is : later (since created past) ≡ since created (later past)
    later_is = since_after created s r (before past)

    kept_after : IsKeptSafe (on_disk new (since created (later past)))
    kept_after = subst (λ (p : Past). IsKeptSafe (on_disk new p)) later_is (safe keeps (since created past) kept).kept

    safely : IsSafeStep s r (on_disk old (since created past)) (on_disk new (since created (later past)))
    safely = subst (λ (p : Past). IsSafeStep s r (on_disk old (since created past)) (on_disk new p)) later_is (safe keeps (since created past) kept)

  module _ (v : SeenPool) (x : Explains old v) where
    past_is : past_after s r (viewed_state v) ≡ later v.past
    past_is = ap (past_after s r) x.state

    next : SeenPool
    next = view_of new (later v.past) v.rule

    next_explained : Explains new next
    unfolding next
    next_explained = record {
      state = refl;
      disk_is = refl;
      explained = ∥∥₁_map x.explained (turns v.past).explained;
      held = λ keeps. ∥∥₁_map (x.held keeps) ((turns v.past).held keeps);
      safe = λ keeps created follows. ∥∥₁_map (x.safe keeps created follows) (kept_after created v.past keeps);
    }

    before_is : before v.past ≡ viewed_state v
    before_is = sym x.state

    both : (P : State → State → Type 0) → P (before v.past) (after v.past) → P (viewed_state v) (viewed_state (view_of new (later v.past) v.rule))
    both P h = subst (λ a. P a (after v.past)) before_is h

    next_safe : (created : ℕ) → IsTrue G.keeps_model → IsKeptSafe (on_disk old (since created v.past)) → IsSafeBetween s r created v (view_of new (later v.past) v.rule)
    next_safe created keeps kept = record {
      before = on_disk old (since created v.past);
      after = on_disk new (since created (later v.past));
      state_before = ap (at_create created) before_is;
      state_after = refl;
      disk_before = sym x.disk_is;
      disk_after = refl;
      kept = kept;
      made = safely created v.past keeps kept;
    }

    next_stepped : IsPoolStep (IsTrue G.keeps_model) s r v next
    unfolding next
    next_stepped = record {
      explained = subst (λ (a : State). ∥ AreTablesExplained a.shown a.past ∥₁) before_is x.explained;
      step = both (λ a b. ∥ IsStep s r a b ∥₁) (∥∥₁_map x.explained (turns v.past).step);
      over = λ keeps. subst (λ (d : Disk). ∥ IsStepOn d s r (viewed_state v) (viewed_state (view_of new (later v.past) v.rule)) ∥₁) (sym x.disk_is)
          (both (λ a b. ∥ IsStepOn (disk_of old) s r a b ∥₁) (∥∥₁_map (x.held keeps) ((turns v.past).over keeps)));
      moves = λ keeps. subst (λ (d : Disk). MovesDisk s d (disk_of new)) (sym x.disk_is) (moves keeps);
      safe = λ keeps created follows. ∥∥₁_map (x.safe keeps created follows) (next_safe created keeps);
      rule = refl;
    }

    next_is : (w : SeenPool) → w ≡ view_after s r v new → w ≡ next
    unfolding next
    next_is w is = is ∙ ap (λ (p : Past). view_of new p v.rule) past_is

    pub explained_after : (w : SeenPool) → w ≡ view_after s r v new → Explains new w
    explained_after w is = subst (Explains new) (sym (next_is w is)) next_explained

    pub stepped_after : (w : SeenPool) → w ≡ view_after s r v new → IsPoolStep (IsTrue G.keeps_model) s r v w
    stepped_after w is = subst (IsPoolStep (IsTrue G.keeps_model) s r v) (sym (next_is w is)) next_stepped

-- one step goes on
pub grows_by_one : (keeps : Type 0) (s : declared_step.Step) (r : declared_reply.Reply) (u v w : SeenPool) → v ≡ u → IsPoolStep keeps s r v w → GrowsTo keeps u w
grows_by_one keeps s r u v w is one = subst (λ (h : SeenPool). GrowsTo keeps h w) is (record {
  goes_on = ∥∥₁_map one.step (λ x. (s ∷ [], r ∷ [], (viewed_state w, ([], x), refl)));
  on = λ k. moved_on s v.disk w.disk (one.moves k);
  rule = one.rule;
})
