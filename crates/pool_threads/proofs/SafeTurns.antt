-- The steps that handles make are safe at each moment, and if a crash stops one, it leaves what a run left.
use Rattle.std.proofs.Common.{◌≡◌, ◌∙◌, ℕ, Bool, ap, sym, subst}
use Rattle.std.specs.Prelude.{IsTrue}
use Rattle.std.proofs.Math.Logic.{∥∥₁_map}
use Rattle.base.specs.declared.step.Step as declared_step
use Rattle.base.specs.declared.step.Reply as declared_reply
use Rattle.base.specs.disk.Disk.{Disk}
use Rattle.base.specs.history.Past.{Past}
use Rattle.base.specs.steps.Explains.{Explains, WereSafe}
use Rattle.base.specs.steps.Steps.{State}
use Rattle.pool_core.specs.KeptSafe.{IsStoppedBetween, past_within}
use Rattle.pool_core.proofs.crash.ExplainedPools.{kept_explained}
use Rattle.pool_core.proofs.crash.StoppedSteps.{stopped_own}
use Rattle.pool_threads.specs.Views.{IsFollowed, IsPoolStep, IsSafeBetween, SeenPool, WereSafeBetween, past_between, since, viewed_state}
use Rattle.base.specs.kept.LeftDisks.{IsLeft}

module _ (s : declared_step.Step) (r : declared_reply.Reply) (created : ℕ) (v w : SeenPool) (x : IsSafeBetween s r created v w) where
  past_before : x.before.held.state.past ≡ since created v.past
  past_before = ap (λ (a : State). a.past) x.state_before

  past_after : x.after.held.state.past ≡ since created w.past
  past_after = ap (λ (a : State). a.past) x.state_after

  within_is : past_within x.before x.after ≡ past_between created v w
  within_is = ap (λ (p : Past). record x.after.held.state.past { acknowledged = p.acknowledged }) past_before ∙ ap (λ (p : Past). record p { acknowledged = v.past.acknowledged }) past_after

  pub were_safe : WereSafeBetween created v w
  were_safe =
      subst (λ (d : Disk). WereSafe d w.disk (since created v.past) (since created w.past)) x.disk_before
      (subst (λ (d : Disk). WereSafe x.before.disk d (since created v.past) (since created w.past)) x.disk_after
      (subst (λ (p : Past). WereSafe x.before.disk x.after.disk p (since created w.past)) past_before
      (subst (λ (p : Past). WereSafe x.before.disk x.after.disk x.before.held.state.past p) past_after x.made.were)))

  pub is_explained : Explains (Unit {0}) w.disk (viewed_state w).shown (since created w.past)
  is_explained =
      subst (λ (d : Disk). Explains (Unit {0}) d (viewed_state w).shown (since created w.past)) x.disk_after
      (subst (λ (a : State). Explains (Unit {0}) x.after.disk a.shown a.past) x.state_after (kept_explained x.after x.made.kept))

  pub were_left : (ended : Disk) → IsStoppedBetween v.disk ended w.disk → IsLeft (past_between created v w) ended
  were_left ended stopped =
      let here : IsStoppedBetween x.before.disk ended x.after.disk =
      subst (λ (d : Disk). IsStoppedBetween d ended x.after.disk) (sym x.disk_before) (subst (λ (d : Disk). IsStoppedBetween v.disk ended d) (sym x.disk_after) stopped) in
      subst (λ (p : Past). IsLeft p ended) within_is (x.after.held.state.shown.guid, stopped_own s r x.before x.after ended x.kept x.made here)

pub stepped_safe : (keeps : Bool) (s : declared_step.Step) (r : declared_reply.Reply) (v w : SeenPool) (created : ℕ) → IsPoolStep (IsTrue keeps) s r v w → IsTrue keeps → IsFollowed v.rule created
    → ∥ WereSafeBetween created v w ∥₁
stepped_safe keeps s r v w created one k follows = ∥∥₁_map (one.safe k created follows) (were_safe s r created v w)

pub stepped_explained : (keeps : Bool) (s : declared_step.Step) (r : declared_reply.Reply) (v w : SeenPool) (created : ℕ) → IsPoolStep (IsTrue keeps) s r v w → IsTrue keeps → IsFollowed v.rule created
    → ∥ Explains (Unit {0}) w.disk (viewed_state w).shown (since created w.past) ∥₁
stepped_explained keeps s r v w created one k follows = ∥∥₁_map (one.safe k created follows) (is_explained s r created v w)

pub stopped_left : (keeps : Bool) (s : declared_step.Step) (r : declared_reply.Reply) (v w : SeenPool) (created : ℕ) (ended : Disk) → IsPoolStep (IsTrue keeps) s r v w → IsTrue keeps → IsFollowed v.rule created
    → IsStoppedBetween v.disk ended w.disk → ∥ IsLeft (past_between created v w) ended ∥₁
stopped_left keeps s r v w created ended one k follows stopped = ∥∥₁_map (one.safe k created follows) (λ x. were_left s r created v w x ended stopped)
