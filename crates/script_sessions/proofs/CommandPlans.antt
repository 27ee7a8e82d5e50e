-- A session's plans are those of the open transactions after a command too.
use Rattle.std.proofs.Common.{◌≡◌, ◌∙◌, ℕ, false, inl, inr, List, refl, sym, ap, subst}
use Rattle.std.specs.Prelude.{Option}
use Rattle.std.specs.Coded.{Coded, Coded-set, codes, Π_prop}
use Rattle.std.specs.FinMap as finite
use Rattle.std.specs.FinSet as set
use Rattle.std.proofs.Math.Logic.{∥∥₁_elim}
use Rattle.base.specs.declared.names.TxId.{TxId}
use Rattle.base.specs.declared.operation.Op.{Op}
use Rattle.base.specs.declared.operation.Shape.{Shape}
use Rattle.base.specs.declared.step.Step.{Step}
use Rattle.base.specs.declared.step.Step.TheVariants as step
use Rattle.base.specs.declared.step.Reply.{Reply}
use Rattle.pool_threads.specs.Turns.{dated}
use Rattle.pool_threads.specs.Views.{SeenPool, viewed_state}
use Rattle.scripts.specs.PoolSteps.{CommitsOps}
use Rattle.script_lines.specs.declared.command.PoolCommand.{PoolCommand}
use Rattle.script_lines.specs.declared.command.PoolCommand.TheVariants as command
use Rattle.scripts.proofs.CommandSteps.{by_finish, by_sync}
use Rattle.script_sessions.proofs.OpenPlans.{abort_plans, begin_plans, commit_plans, is_of_transactions, kept_plans, other_stays}
use Rattle.script_sessions.specs.Callers.{AsksNext, StepsTo}
use Rattle.script_sessions.specs.Plans.{ArePlansOf, change_of, plans_after}
use Rattle.script_sessions.specs.declared.begun_plans.BegunPlan.{BegunPlan}
use Rattle.script_sessions.specs.declared.begun_plans.PlanChange.{PlanChange}
use Rattle.script_sessions.specs.declared.begun_plans.PlanChange.TheVariants as change

plan_coded : Coded (Option (List Shape))
plan_coded = hlevel (codes, finite.code, set.code)

plans_prop : (plans : List BegunPlan) (v : SeenPool) (p q : ArePlansOf plans v) → p ≡ q
plans_prop plans v = Π_prop (λ tx. Coded-set plan_coded _ _)

module _ (in_pool : ℕ) where
  -- a step that is no begin, commit or abort keeps them
  by_other : (s : Step) (r : Reply) (v w : SeenPool) → is_of_transactions (dated in_pool s) ≡ false → StepsTo in_pool s r v w → (plans : List BegunPlan) → ArePlansOf plans v → ArePlansOf plans w
  by_other s r v w other made plans are =
      ∥∥₁_elim made.step (plans_prop plans w) (λ one. kept_plans plans (viewed_state v) (viewed_state w) are (other_stays (dated in_pool s) r (viewed_state v) (viewed_state w) other one))

  abbrev Keeps : SeenPool → SeenPool → Type 0
  Keeps v w = (plans : List BegunPlan) → ArePlansOf plans v → ArePlansOf plans w

  by_commit : (tx : TxId) (ops : List Op) (r : Reply) (v w : SeenPool) (plans : List BegunPlan) → ArePlansOf plans v → CommitsOps (StepsTo in_pool) tx ops r v w → ArePlansOf (plans_after (change.Ends tx) r plans) w
  by_commit tx ops r v w plans are (inl made) =
      ∥∥₁_elim made.step (plans_prop (plans_after (change.Ends tx) r plans) w) (λ one. commit_plans plans (viewed_state v) (viewed_state w) are tx ops r one)
  by_commit tx ops r v w plans are (inr none) =
      subst (λ (q : Reply). ArePlansOf (plans_after (change.Ends tx) q plans) w) (sym none.0) (subst (λ (x : SeenPool). ArePlansOf plans x) (sym none.1) are)

  by_step : (s : Step) (r : Reply) (v w : SeenPool) (plans : List BegunPlan) → ArePlansOf plans v → StepsTo in_pool s r v w → ArePlansOf (plans_after (change_of (command.Step s)) r plans) w
  by_step (step.Begin owner plan) r v w plans are made =
      ∥∥₁_elim made.step (plans_prop (plans_after (change.Begins plan) r plans) w) (λ one. begin_plans plans (viewed_state v) (viewed_state w) are owner plan r one)
  by_step (step.Commit tx ops) r v w plans are made = by_commit tx ops r v w plans are (inl made)
  by_step (step.Abort tx) r v w plans are made =
      ∥∥₁_elim made.step (plans_prop (plans_after (change.Ends tx) r plans) w) (λ one. abort_plans plans (viewed_state v) (viewed_state w) are tx r one)
  by_step (step.Lock owner n range mode) r v w plans are made = by_other (step.Lock owner n range mode) r v w refl made plans are
  by_step (step.LockAppend owner n) r v w plans are made = by_other (step.LockAppend owner n) r v w refl made plans are
  by_step (step.Unlock owner id) r v w plans are made = by_other (step.Unlock owner id) r v w refl made plans are
  by_step (step.Read owner n range) r v w plans are made = by_other (step.Read owner n range) r v w refl made plans are
  by_step (step.Length n) r v w plans are made = by_other (step.Length n) r v w refl made plans are
  by_step step.Digest r v w plans are made = by_other step.Digest r v w refl made plans are
  by_step step.Name r v w plans are made = by_other step.Name r v w refl made plans are
  by_step step.Status r v w plans are made = by_other step.Status r v w refl made plans are
  by_step step.CloseGroup r v w plans are made = by_other step.CloseGroup r v w refl made plans are
  by_step step.MarkQuiesced r v w plans are made = by_other step.MarkQuiesced r v w refl made plans are
  by_step (step.StartSync moment) r v w plans are made = by_other (step.StartSync moment) r v w refl made plans are
  by_step step.SyncStep r v w plans are made = by_other step.SyncStep r v w refl made plans are
  by_step step.LogWrite r v w plans are made = by_other step.LogWrite r v w refl made plans are
  by_step step.LogFlush r v w plans are made = by_other step.LogFlush r v w refl made plans are
  by_step (step.Durable receipt) r v w plans are made = by_other (step.Durable receipt) r v w refl made plans are

  pub command_plans : (asked : PoolCommand) (moment : ℕ) (r : Reply) (v w : SeenPool) (plans : List BegunPlan) → ArePlansOf plans v → AsksNext in_pool asked moment r v w
      → ArePlansOf (plans_after (change_of asked) r plans) w
  command_plans (command.Commit tx contents) moment r v w plans are made = by_commit tx _ r v w plans are made
  command_plans command.Start moment r v w plans are made = by_other (step.StartSync moment) r v w refl made plans are
  command_plans command.Finish moment r v w plans are made =
      by_finish (StepsTo in_pool) Keeps (λ v plans are. are) (λ u v w x y plans are. y plans (x plans are)) (λ s. is_of_transactions (dated in_pool s) ≡ false) by_other refl r v w made plans are
  command_plans command.Sync moment r v w plans are made =
      by_sync (StepsTo in_pool) Keeps (λ v plans are. are) (λ u v w x y plans are. y plans (x plans are)) (λ s. is_of_transactions (dated in_pool s) ≡ false) by_other refl refl moment refl refl r v w made plans are
  command_plans (command.Step s) moment r v w plans are made = by_step s r v w plans are made

  -- so those that the session keeps then are
  pub plans_kept : (asked : PoolCommand) (moment : ℕ) (r : Reply) (v w : SeenPool) (old copied new : List BegunPlan) (what : PlanChange) → ArePlansOf old v → AsksNext in_pool asked moment r v w
      → what ≡ change_of asked → copied ≡ old → new ≡ plans_after what r copied → ArePlansOf new w
  plans_kept asked moment r v w old copied new what are made asks same is =
      subst (λ (plans : List BegunPlan). ArePlansOf plans w)
      (sym (is ∙ ap (λ (c : PlanChange). plans_after c r copied) asks ∙ ap (λ (plans : List BegunPlan). plans_after (change_of asked) r plans) same))
      (command_plans asked moment r v w old are made)
