-- The steps of a pool's only handle, with nothing between them.
use Rattle.std.proofs.Common.{◌≡◌, ◌∷◌, [], List, ap, subst, ◌∙◌}
use Rattle.std.specs.Prelude.{All}
use Rattle.std.proofs.Math.Logic.{∥∥₁_map, ∥∥₁_elim, ∥∥₁_prop}
use Rattle.std.proofs.lemmas.List.Elements.{All-head, All-tail}
use Rattle.base.specs.declared.error.PoolError.{PoolError}
use Rattle.base.specs.declared.step.Step as declared_step
use Rattle.base.specs.declared.step.Reply as declared_reply
use Rattle.base.specs.declared.step.Reply.TheVariants as reply
use Rattle.base.specs.steps.Runs.{Step}
use Rattle.base.specs.steps.Steps.{State}
use Rattle.device_model.specs.declared.device.SectorDevice.{Ghosts}
use Rattle.pool_threads.specs.declared.handle.Handle.{Handle}
use Rattle.pool_threads.specs.Answers.{Makes, state_seen}
use Rattle.pool_threads.specs.Handles.{kin_of}
use Rattle.pool_threads.specs.Turns.{AreUnbroken}
use Rattle.pool_threads.specs.Views.{IsPoolStep, SeenPool, viewed_state}
use Rattle.word_lock.specs.declared.rule.Turn.{Turn}

-- a step over a device of which nothing is known
abbrev pub Does : declared_step.Step → declared_reply.Reply → State → State → Type 0
Does s r old new = Step ⊥ [] s r old new

-- a step that is refused so leaves all as it is
abbrev pub Leaves : declared_step.Step → PoolError → Type 0
Leaves s e = (old new : State) → Does s (reply.Refused e) old new → new ≡ old

-- tries that are refused so, with nothing between them, leave all as it is
pub tries_leave : (keeps : Type 0) (s : declared_step.Step) (e : PoolError) (ts : List (Turn SeenPool)) (v w : SeenPool) → Leaves s e → All (λ (t : Turn SeenPool). IsPoolStep keeps s (reply.Refused e) t.took t.left) ts → AreUnbroken v ts w
    → ∥ viewed_state w ≡ viewed_state v ∥₁
tries_leave keeps s e [] v w leaves all line = ∣ ap (λ (u : SeenPool). viewed_state u) line ∣₁
tries_leave keeps s e (t ∷ ts) v w leaves all line =
    ∥∥₁_elim (All-head (λ (u : Turn SeenPool). IsPoolStep keeps s (reply.Refused e) u.took u.left) t ts all).step ∥∥₁_prop (λ one.
    ∥∥₁_map {B = viewed_state w ≡ viewed_state v} (tries_leave keeps s e ts t.left w leaves (All-tail (λ (u : Turn SeenPool). IsPoolStep keeps s (reply.Refused e) u.took u.left) t ts all) line.1)
    (λ rest. rest ∙ leaves (viewed_state t.took) (viewed_state t.left) one ∙ ap (λ (u : SeenPool). viewed_state u) line.0))

module _ {Dev : Type 0} {G : Ghosts Dev} where
  -- a step of the only handle is one from what it had seen to what it has seen
  pub step_at_once : {s : declared_step.Step} {r : declared_reply.Reply} (old new : Handle Dev G) → kin_of old ≡ 0 → Makes s r old new → ∥ Does s r (state_seen old) (state_seen new) ∥₁
  step_at_once {s} {r} old new only m =
      ∥∥₁_map {B = Does s r (state_seen old) (state_seen new)} m.made.made.step (λ one. subst (λ (v : SeenPool). Does s r (viewed_state v) (state_seen new)) (m.made.alone only) one)
