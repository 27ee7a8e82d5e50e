-- Calls of a handle, one after another: it stays in its pool and sees what goes on from what it had seen.
use Rattle.std.proofs.Common.{◌≡◌, [], ℕ, List, refl, sym, subst, ◌∙◌}
use Rattle.std.specs.Prelude.{IsTrue}
use Rattle.std.proofs.Math.Logic.{∥∥₁_map, ∥∥₁_elim, ∥∥₁_prop}
use Rattle.base.specs.declared.step.Step as declared_step
use Rattle.base.specs.declared.step.Reply as declared_reply
use Rattle.base.specs.disk.Disk.{bytes_of}
use Rattle.base.specs.steps.Runs.{Step}
use Rattle.base.specs.steps.Seen.{IsMadeBetween}
use Rattle.device_model.specs.declared.device.SectorDevice.{Ghosts}
use Rattle.pool_threads.specs.declared.handle.Handle.{Handle}
use Rattle.pool_threads.specs.Answers.{Makes, Sees}
use Rattle.pool_threads.specs.Handles.{StaysInPool}
use Rattle.pool_threads.specs.Views.{GrowsTo, IsPoolStep, SeenPool, grows_onward, grows_same, viewed_state}
use Rattle.pool_threads.proofs.Made.{grows_by_made, met_none_on}
use Rattle.pool_threads.proofs.Turned.{grows_by_one}
use Rattle.word_lock.specs.Seats.{HasMetNone, seen}

-- a step between views is one between what was seen before the first and after the last
pub between_all : (keeps over : Type 0) (now : List ℕ) (s : declared_step.Step) (r : declared_reply.Reply) (u v w x : SeenPool) → GrowsTo keeps u v → IsPoolStep keeps s r v w → GrowsTo keeps w x
    → ∥ Step over now s r (viewed_state v) (viewed_state w) ∥₁ → ∥ IsMadeBetween over s r (viewed_state u) (viewed_state x) ∥₁
between_all keeps over now s r u v w x earlier one later steps =
    ∥∥₁_elim earlier.goes_on ∥∥₁_prop (λ before.
    ∥∥₁_elim later.goes_on ∥∥₁_prop (λ after.
    ∥∥₁_elim one.explained ∥∥₁_prop (λ explained.
    ∥∥₁_map {B = IsMadeBetween over s r (viewed_state u) (viewed_state x)} steps (λ step. record {
      old = viewed_state v;
      new = viewed_state w;
      no_earlier = before;
      no_later = after;
      explained = explained;
      now = now;
      made = step;
    }))))

module _ {keeps : Type 0} {s : declared_step.Step} {r : declared_reply.Reply} where
  pub one_grows : {v w : SeenPool} → IsPoolStep keeps s r v w → GrowsTo keeps v w
  one_grows {v} {w} one = grows_by_one keeps s r v v w refl one

  -- a step of a turn is one between what was seen before it and what is seen after it
  pub seen_in : (u v w x : SeenPool) → GrowsTo keeps u v → IsPoolStep keeps s r v w → GrowsTo keeps w x → ∥ IsMadeBetween ⊥ s r (viewed_state u) (viewed_state x) ∥₁
  seen_in u v w x earlier one later = between_all keeps ⊥ [] s r u v w x earlier one later one.step

  -- over a device that keeps the disk model it is one over the bytes of then
  pub seen_in_on : keeps → (u v w x : SeenPool) → GrowsTo keeps u v → IsPoolStep keeps s r v w → GrowsTo keeps w x → ∥ IsMadeBetween (Unit {0}) s r (viewed_state u) (viewed_state x) ∥₁
  seen_in_on kept u v w x earlier one later = between_all keeps (Unit {0}) (bytes_of v.disk.now) s r u v w x earlier one later (one.over kept)

module _ {Dev : Type 0} {G : Ghosts Dev} where
  -- the handle stays in its pool, sees what goes on from what it had seen, and meets no other
  pub record GoesAlong (old new : Handle Dev G) : Type 0 where
    pub same_pool : StaysInPool old new
    pub onward : GrowsTo (IsTrue G.keeps_model) (seen old.seat) (seen new.seat)
    pub met_none : HasMetNone old.seat new.seat

  pub along_same : (old new : Handle Dev G) → new ≡ old → GoesAlong old new
  along_same old new same = subst (λ (h : Handle Dev G). GoesAlong old h) (sym same)
      (record { same_pool = (refl, refl); onward = grows_same (IsTrue G.keeps_model) (seen old.seat); met_none = (refl, refl) })

  pub along_on : (old now new : Handle Dev G) → GoesAlong old now → GoesAlong now new → GoesAlong old new
  along_on old now new first later = record {
    same_pool = (later.same_pool.0 ∙ first.same_pool.0, later.same_pool.1 ∙ first.same_pool.1);
    onward = grows_onward _ _ _ _ first.onward later.onward;
    met_none = met_none_on old.seat now.seat new.seat first.met_none later.met_none;
  }

  pub along_made : {s : declared_step.Step} {r : declared_reply.Reply} {old new : Handle Dev G} → Makes s r old new → GoesAlong old new
  along_made m = record { same_pool = m.same_pool; onward = grows_by_made m.made; met_none = m.made.met_none }

  -- a step of a handle is one between what it had seen before it and has seen after it
  pub seen_made : {s : declared_step.Step} {r : declared_reply.Reply} (old now next new : Handle Dev G) → GoesAlong old now → Makes s r now next → GoesAlong next new → Sees (IsMadeBetween ⊥ s r) old new
  seen_made old now next new first m later = seen_in _ _ _ _ (grows_onward _ _ _ _ first.onward m.made.onward) m.made.made later.onward
