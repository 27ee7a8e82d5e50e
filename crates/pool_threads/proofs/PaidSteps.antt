-- The steps that are due for a sync leave the locks and the transactions.
use Rattle.std.proofs.Common.{◌≡◌, ◌++◌, ◌∷◌, [], Bool, false, true, List, if◌then◌else◌, refl, sym, ap, subst, ◌∙◌}
use Rattle.std.specs.Prelude.{ℕ, ◌||◌, IfSome, Option, Some, None, Result, Ok, Err, is_none, is_some, nat_le}
use Rattle.std.proofs.Math.Logic.{∥∥₁_map, ∥∥₁_elim, ∥∥₁_prop}
use Rattle.std.proofs.lemmas.Bool.{false≢true}
use Rattle.base.specs.declared.error.PoolError.{PoolError}
use Rattle.base.specs.declared.names.Group.{Group}
use Rattle.base.specs.declared.step.Step as declared_step
use Rattle.base.specs.declared.step.Step.TheVariants as step
use Rattle.base.specs.declared.step.Reply as declared_reply
use Rattle.base.specs.steps.Refusals as refusal
use Rattle.base.specs.steps.Refusals.{quiesced_group}
use Rattle.base.specs.steps.Runs.{Step}
use Rattle.base.specs.steps.Shown.{Shown, SyncPlan}
use Rattle.base.specs.steps.Steps.{Answers, IsProgress, State, SyncProgress}
use Rattle.base.specs.steps.Steps.SyncProgress.{More, Synced}
use Rattle.pool_tables.specs.declared.duty.Duty.TheVariants as duty
use Rattle.pool_tables.specs.Duties.{closing_step, is_quiescent, step_to_sync, step_up_to, syncing_step}
use Rattle.pool_threads.specs.Serves.{AreDue, MakesDue, due_of}
use Rattle.pool_threads.specs.Transacts.{AreReleased}
use Rattle.pool_threads.specs.Views.{SeenPool, viewed_state}

pub released_same : (a b : State) → b ≡ a → AreReleased a b
released_same a b same = subst (λ (s : State). AreReleased a s) (sym same) (record { locks = refl; transactions = refl })

pub released_on : (a b c : State) → AreReleased a b → AreReleased b c → AreReleased a c
released_on a b c first later = record { locks = later.locks ∙ first.locks; transactions = later.transactions ∙ first.transactions }

-- whether a step is one of a sync, or brings a group closer to one
abbrev is_of_sync : declared_step.Step → Bool
is_of_sync step.CloseGroup = true
is_of_sync step.MarkQuiesced = true
is_of_sync (step.StartSync moment) = true
is_of_sync step.SyncStep = true
is_of_sync _ = false

abbrev IsOfSync : Option declared_step.Step → Type 0
IsOfSync o = IfSome o (λ s. is_of_sync s ≡ true)

either : (b : Bool) (o q : Option declared_step.Step) → IsOfSync o → IsOfSync q → IsOfSync (if b then o else q)
either true o q first other = first
either false o q first other = other

syncing_is : (moment : ℕ) (s : Shown) → IsOfSync (syncing_step moment s)
syncing_is moment s =
    either (s.suspended || is_some s.line.syncing) (Some step.SyncStep) (if is_some (quiesced_group s.line) then Some (step.StartSync moment) else None) refl
    (either (is_some (quiesced_group s.line)) (Some (step.StartSync moment)) None refl tt)

closing_is : (s : Shown) → IsOfSync (closing_step s)
closing_is s = either (is_none s.line.middle) (Some step.CloseGroup) (if is_quiescent s then Some step.MarkQuiesced else None) refl (either (is_quiescent s) (Some step.MarkQuiesced) None refl tt)

due_is : (group moment : ℕ) (s : Shown) → IsOfSync (step_up_to group moment s)
due_is group moment s =
    either (nat_le group s.line.synced) None (step_to_sync moment s) tt
    (either (is_some (syncing_step moment s)) (syncing_step moment s) (closing_step s) (syncing_is moment s) (closing_is s))

due_step_is : (o : Option declared_step.Step) (s : declared_step.Step) → IsOfSync o → o ≡ Some s → is_of_sync s ≡ true
due_step_is o s all is = subst IsOfSync is all

-- what a step does leaves them, whether it is refused or not
answered : {A : Type 0} (o : Option PoolError) (answer : Result A PoolError) (old new : State) (does : A → Type 0) (own : PoolError → Type 0) → ((a : A) → does a → AreReleased old new) → ((e : PoolError) → own e → AreReleased old new)
    → Answers o answer old new does own → AreReleased old new
answered (Some f) answer old new does own made refused holds = released_same old new holds.1
answered None (Ok a) old new does own made refused holds = made a holds
answered None (Err e) old new does own made refused holds = refused e holds

to_state : (old new after : State) → AreReleased old after → new ≡ after → AreReleased old new
to_state old new after left is = subst (λ (s : State). AreReleased old s) (sym is) left

progress_leaves : (group : ℕ) (p : SyncProgress) (plan : SyncPlan) (old new : State) → IsProgress group p plan old new → AreReleased old new
progress_leaves group More plan old new made = to_state old new _ (record { locks = refl; transactions = refl }) made.1
progress_leaves group (Synced g) plan old new made = to_state old new _ (record { locks = refl; transactions = refl }) made.2

step_leaves : (s : declared_step.Step) (r : declared_reply.Reply) (old new : State) → is_of_sync s ≡ true → Step ⊥ [] s r old new → AreReleased old new
step_leaves step.CloseGroup r old new due (answer, is, holds) =
    answered (refusal.close_refusal old.shown) answer old new _ _ (λ group made. to_state old new _ (record { locks = refl; transactions = refl }) made.1) (λ e never. absurd never) holds
step_leaves step.MarkQuiesced r old new due (answer, is, holds) =
    answered (refusal.quiesce_refusal old.shown) answer old new _ _ (λ group made. to_state old new _ (record { locks = refl; transactions = refl }) made.1) (λ e never. absurd never) holds
step_leaves (step.StartSync moment) r old new due (answer, is, holds) =
    answered (refusal.start_refusal old.shown) answer old new _ _ (λ group made. to_state old new _ (record { locks = refl; transactions = refl }) made.4) (λ e own. released_same old new own.1) holds
step_leaves step.SyncStep r old new due (answer, is, holds) =
    answered (refusal.sync_step_refusal old.shown) answer old new _ _ (λ p made. progress_leaves made.0 p made.1 old new made.4) (λ e own. to_state old new _ (record { locks = refl; transactions = refl }) own.1) holds
step_leaves _ r old new due made = absurd (false≢true due)

module _ (keeps : Type 0) (group : Group) (moment : ℕ) where
  abbrev Leaves : SeenPool → SeenPool → Type 0
  Leaves v w = ∥ AreReleased (viewed_state v) (viewed_state w) ∥₁

  all_leave : (rs : List declared_reply.Reply) (v w : SeenPool) → AreDue keeps (duty.SyncUpTo group moment) rs v w → Leaves v w
  all_leave [] v w same = ∣ released_same (viewed_state v) (viewed_state w) (ap (λ (u : SeenPool). viewed_state u) same) ∣₁
  all_leave (r ∷ rs) v w (s, middle, due, one, rest) =
      ∥∥₁_elim one.step ∥∥₁_prop (λ made.
      ∥∥₁_map {B = AreReleased (viewed_state v) (viewed_state w)} (all_leave rs middle w rest)
      (λ later. released_on (viewed_state v) (viewed_state middle) (viewed_state w)
      (step_leaves s r (viewed_state v) (viewed_state middle) (due_step_is (due_of (duty.SyncUpTo group moment) v) s (due_is group.0 moment (viewed_state v).shown) due) made) later))

  pub payment_releases : (r : Option declared_reply.Reply) (v w : SeenPool) → MakesDue keeps (duty.SyncUpTo group moment) r v w → ∥ AreReleased (viewed_state v) (viewed_state w) ∥₁
  payment_releases None v w made = ∣ released_same (viewed_state v) (viewed_state w) (ap (λ (u : SeenPool). viewed_state u) made.1) ∣₁
  payment_releases (Some r) v w made = all_leave (made.0 ++ r ∷ []) v w made.2
