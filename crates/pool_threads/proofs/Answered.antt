-- What the step of a call says to its handle.
use Rattle.std.proofs.Common.{◌≡◌, [], refl}
use Rattle.std.specs.Prelude.{IfErr, IfOk, IsTrue, Result, Ok, Err, false}
use Rattle.std.specs.Coded.{Coded-set, coded_bool}
use Rattle.std.proofs.Math.Logic.{∥∥₁_map, ∥∥₁_elim, ∥∥₁_prop}
use Rattle.base.specs.declared.error.PoolError.{PoolError}
use Rattle.base.specs.declared.step.Step as declared_step
use Rattle.base.specs.declared.step.Reply as declared_reply
use Rattle.base.specs.declared.step.Reply.TheVariants as reply
use Rattle.base.specs.disk.Disk.{bytes_of}
use Rattle.base.specs.steps.Runs.{reply_of}
use Rattle.base.specs.steps.Seen.{IsMadeBetween}
use Rattle.base.specs.steps.SeenLaws.{is_untested}
use Rattle.base.specs.steps.Steps.{State}
use Rattle.base.proofs.steps.SeenRefusals.{refusals_are_seen, refusals_suspend}
use Rattle.device_model.specs.declared.device.SectorDevice.{Ghosts}
use Rattle.pool_threads.specs.declared.handle.Handle.{Handle}
use Rattle.pool_threads.specs.Answers.{IsRefusal, Makes, Sees, state_seen}
use Rattle.pool_threads.specs.Views.{GrowsTo, IsPoolStep, SeenPool, viewed_state}

-- a step that a handle made is one between what it had seen and what it has seen
pub between : (keeps : Type 0) (s : declared_step.Step) (r : declared_reply.Reply) (u v w : SeenPool) → GrowsTo keeps u v → IsPoolStep keeps s r v w → ∥ IsMadeBetween ⊥ s r (viewed_state u) (viewed_state w) ∥₁
between keeps s r u v w onward one =
    ∥∥₁_elim onward.goes_on ∥∥₁_prop (λ before.
    ∥∥₁_elim one.explained ∥∥₁_prop (λ x.
    ∥∥₁_map {B = IsMadeBetween ⊥ s r (viewed_state u) (viewed_state w)} one.step (λ step. record {
      old = viewed_state v;
      new = viewed_state w;
      no_earlier = before;
      no_later = ([], [], refl);
      explained = x;
      now = [];
      made = step;
    })))

-- over a device that keeps the disk model it is one over the bytes of then
between_on : (keeps : Type 0) → keeps → (s : declared_step.Step) (r : declared_reply.Reply) (u v w : SeenPool) → GrowsTo keeps u v → IsPoolStep keeps s r v w
    → ∥ IsMadeBetween (Unit {0}) s r (viewed_state u) (viewed_state w) ∥₁
between_on keeps kept s r u v w onward one =
    ∥∥₁_elim onward.goes_on ∥∥₁_prop (λ before.
    ∥∥₁_elim one.explained ∥∥₁_prop (λ x.
    ∥∥₁_map {B = IsMadeBetween (Unit {0}) s r (viewed_state u) (viewed_state w)} (one.over kept) (λ step. record {
      old = viewed_state v;
      new = viewed_state w;
      no_earlier = before;
      no_later = ([], [], refl);
      explained = x;
      now = bytes_of v.disk.now;
      made = step;
    })))

pub refused_between : (s : declared_step.Step) (e : PoolError) (before after : State) → IsMadeBetween ⊥ s (reply.Refused e) before after → IsRefusal s e before after
refused_between s e before after b = record { ruled = refusals_are_seen s e before after b; suspended = refusals_suspend s e before after b }

module _ {Dev : Type 0} {G : Ghosts Dev} {old new : Handle Dev G} where
  pub made_between : {s : declared_step.Step} {r : declared_reply.Reply} → Makes s r old new → Sees (IsMadeBetween ⊥ s r) old new
  made_between m = between _ _ _ _ _ _ m.made.onward m.made.made

  module _ {A : Type 0} (make : A → declared_reply.Reply) (s : declared_step.Step) (result : Result A PoolError) (makes : Makes s (reply_of make result) old new) where
    pub sees_answer : (P : A → State → State → Type 0) → ((a : A) (before after : State) → IsMadeBetween ⊥ s (make a) before after → P a before after) → IfOk result (λ a. Sees (P a) old new)
    sees_answer P law = by result makes
      where
        by : (x : Result A PoolError) → Makes s (reply_of make x) old new → IfOk x (λ a. Sees (P a) old new)
        by (Ok a) made = ∥∥₁_map (made_between made) (law a (state_seen old) (state_seen new))
        by (Err e) made = tt

    -- of a call whose value follows from the bytes of the device
    pub sees_answer_on : IsTrue G.keeps_model → (P : A → State → State → Type 0) → ((a : A) (before after : State) → IsMadeBetween (Unit {0}) s (make a) before after → P a before after) → IfOk result (λ a. Sees (P a) old new)
    sees_answer_on keeps P law = by result makes
      where
        by : (x : Result A PoolError) → Makes s (reply_of make x) old new → IfOk x (λ a. Sees (P a) old new)
        by (Ok a) made = ∥∥₁_map (between_on _ keeps _ _ _ _ _ made.made.onward made.made.made) (law a (state_seen old) (state_seen new))
        by (Err e) made = tt

    pub sees_refusal : IfErr result (λ e. Sees (IsRefusal s e) old new)
    sees_refusal = by result makes
      where
        by : (x : Result A PoolError) → Makes s (reply_of make x) old new → IfErr x (λ e. Sees (IsRefusal s e) old new)
        by (Ok a) made = tt
        by (Err e) made = ∥∥₁_map (made_between made) (refused_between s e (state_seen old) (state_seen new))

    -- of a call that has no refusal of its own
    pub is_ruled : ((e : PoolError) (before after : State) → IsMadeBetween ⊥ s (reply.Refused e) before after → is_untested e ≡ false) → IfErr result (λ e. is_untested e ≡ false)
    is_ruled law = by result makes
      where
        by : (x : Result A PoolError) → Makes s (reply_of make x) old new → IfErr x (λ e. is_untested e ≡ false)
        by (Ok a) made = tt
        by (Err e) made = ∥∥₁_elim (made_between made) (Coded-set coded_bool (is_untested e) false) (law e (state_seen old) (state_seen new))
