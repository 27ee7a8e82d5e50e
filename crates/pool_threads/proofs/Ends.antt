-- How a pool ends.
use Rattle.std.proofs.Common.{◌≡◌, ◌∷◌, [], ℕ, List, sym, subst}
use Rattle.std.specs.Prelude.{IfSome, IsTrue, None, Option, Some}
use Rattle.std.proofs.Math.Logic.{∥∥₁_map}
use Rattle.device_model.specs.declared.device.SectorDevice.{Ghosts}
use Rattle.pool_core.specs.declared.state.PoolState.{PoolState}
use Rattle.pool_core.specs.KeptSafe.{on_disk}
use Rattle.pool_core.specs.States.{shown}
use Rattle.pool_core.proofs.crash.SafeMoments.{kept_own, kept_safe}
use Rattle.pool_threads.specs.declared.shared.Shared.{Shared}
use Rattle.pool_threads.specs.declared.handle.LastSeen.{LastSeen}
use Rattle.pool_threads.specs.Handles.{EndsIn, IsLastState, kin_left, opening_view}
use Rattle.pool_threads.specs.Views.{CrashRule, Explains, GrowsTo, IsFollowed, SeenPool, grows_onward, grows_same, since}
use Rattle.word_lock.specs.declared.rule.Turn.{Turn}
use Rattle.word_lock.specs.Seats.{seen}
use Rattle.word_lock.specs.Turns.{IsTurnLine}

module _ {Dev : Type 0} {G : Ghosts Dev} (p : Shared Dev G) (s : PoolState Dev G) where
  pub ends_in : (v : SeenPool) → Explains s v → GrowsTo (IsTrue G.keeps_model) (opening_view p) v → EndsIn p s v
  ends_in v x onward = record {
    explains = x;
    onward = onward;
    cuts = λ keeps created follows. ∥∥₁_map (x.safe keeps created (subst (λ (r : CrashRule). IsFollowed r created) (sym onward.rule) follows)) (λ k. record {
      safe = kept_safe (on_disk s (since created v.past)) k;
      left = ((shown s).guid, kept_own (on_disk s (since created v.past)) k);
    });
  }

-- turns that lead from one view to another go on from it
pub line_grows : (keeps : Type 0) (v : SeenPool) (ts : List (ℕ × Turn SeenPool)) (w : SeenPool) → IsTurnLine (GrowsTo keeps) v ts w → GrowsTo keeps v w
line_grows keeps v [] w same = subst (GrowsTo keeps v) (sym same) (grows_same keeps v)
line_grows keeps v (t ∷ ts) w (took, onward, rest) = grows_onward keeps _ _ _ onward (line_grows keeps t.1.left ts w rest)

-- after the only handle a pool ends in what that has seen
pub ends_as_seen : {Dev : Type 0} {G : Ghosts Dev} (p : Shared Dev G) (l : LastSeen Dev G) → kin_left l ≡ 0 → (r : Option (PoolState Dev G)) → IfSome r (λ s. IsLastState p l s) → IfSome r (λ s. Explains s (seen l.seat))
ends_as_seen p l only (Some s) e = subst (Explains s) (e.alone only) e.ends.explains
ends_as_seen p l only None e = tt
