-- Turns of a handle, one after another, and one at last: tries that are refused, and then a step.
use Rattle.std.proofs.Common.{◌≡◌, ◌++◌, ◌∷◌, [], List, append_assoc, refl, sym, ap, ◌∙◌}
use Rattle.std.proofs.lemmas.List.{append-nil}
use Rattle.std.proofs.lemmas.List.Elements.{All-nil, All-push}
use Rattle.std.specs.Prelude.{IsTrue, IfErr, IfOk, Result, Ok, Err}
use Rattle.std.proofs.Math.Logic.{∥∥₁_map}
use Rattle.base.specs.declared.error.PoolError.{PoolError}
use Rattle.base.specs.declared.step.Step as declared_step
use Rattle.base.specs.declared.step.Reply as declared_reply
use Rattle.base.specs.steps.Runs.{reply_of}
use Rattle.base.specs.steps.Seen.{IsMadeBetween}
use Rattle.base.specs.steps.Steps.{State}
use Rattle.device_model.specs.declared.device.SectorDevice.{Ghosts}
use Rattle.pool_threads.specs.declared.handle.Handle.{Handle}
use Rattle.pool_threads.specs.Answers.{IsRefusal, MakesAtLast, Sees, Takes, TakesAtLast, TakesOne, state_seen}
use Rattle.pool_threads.specs.Handles.{StaysInPool}
use Rattle.pool_threads.specs.Views.{GrowsTo, SeenPool, grows_onward, grows_same}
use Rattle.pool_threads.proofs.Answered.{between, refused_between}
use Rattle.pool_threads.proofs.Made.{met_none_on}
use Rattle.pool_threads.specs.Turns.{AreUnbroken}
use Rattle.word_lock.specs.declared.rule.Turn.{Turn}
use Rattle.word_lock.specs.Seats.{seen, turns}
use Rattle.word_lock.specs.Turns.{turn}

pub stays_on : {Dev : Type 0} {G : Ghosts Dev} (old now new : Handle Dev G) → StaysInPool old now → StaysInPool now new → StaysInPool old new
stays_on old now new first later = (later.0 ∙ first.0, later.1 ∙ first.1)

-- unbroken turns, up to what they left last
unbroken_to : (v : SeenPool) (ts : List (Turn SeenPool)) (w x : SeenPool) → AreUnbroken v ts w → x ≡ w → AreUnbroken v ts x
unbroken_to v [] w x line same = same ∙ line
unbroken_to v (t ∷ ts) w x line same = (line.0, unbroken_to t.left ts w x line.1 same)

-- and one more
pub unbroken_push : (v : SeenPool) (ts : List (Turn SeenPool)) (w took left : SeenPool) → AreUnbroken v ts w → took ≡ w → AreUnbroken v (ts ++ turn took left ∷ []) left
unbroken_push v [] w took left line same = (same ∙ line, refl)
unbroken_push v (t ∷ ts) w took left line same = (line.0, unbroken_push t.left ts w took left line.1 same)

-- turns of which something is so, one after another
module _ {Dev : Type 0} {G : Ghosts Dev} (P : Turn SeenPool → Type 0) where
  pub no_turns : (h : Handle Dev G) → Takes P h h
  no_turns h = record { same_pool = (refl, refl); made = record { had = []; each = All-nil P; onward = grows_same (IsTrue G.keeps_model) (seen h.seat); turns = sym (append-nil (turns h.seat)); met_none = (refl, refl); alone = λ _. refl } }

  module _ {old now next : Handle Dev G} (t : Takes P old now) where
    -- one more, which leads on
    pub one_more_turn : (m : TakesOne P now next) → GrowsTo (IsTrue G.keeps_model) m.made.took (seen next.seat) → Takes P old next
    one_more_turn m leads = record {
      same_pool = stays_on old now next t.same_pool m.same_pool;
      made = record {
        had = t.made.had ++ turn m.made.took (seen next.seat) ∷ [];
        each = All-push P t.made.had (turn m.made.took (seen next.seat)) t.made.each m.made.made;
        onward = grows_onward _ _ _ _ t.made.onward (grows_onward _ _ _ _ m.made.onward leads);
        turns = m.made.turn ∙ ap (λ (ts : List (Turn SeenPool)). ts ++ turn m.made.took (seen next.seat) ∷ []) t.made.turns ∙ append_assoc (turns old.seat) t.made.had (turn m.made.took (seen next.seat) ∷ []);
        met_none = met_none_on old.seat now.seat next.seat t.made.met_none m.made.met_none;
        alone = λ only. unbroken_push (seen old.seat) t.made.had (seen now.seat) m.made.took (seen next.seat) (t.made.alone only) (m.made.alone (t.made.met_none.0 ∙ only));
      };
    }

    -- the last one
    pub at_last : {Q : Turn SeenPool → Type 0} → TakesOne Q now next → TakesAtLast P Q old next
    at_last m = record {
      same_pool = stays_on old now next t.same_pool m.same_pool;
      made = record {
        had = t.made.had;
        each = t.made.each;
        took = m.made.took;
        onward = grows_onward _ _ _ _ t.made.onward m.made.onward;
        made = m.made.made;
        turn = m.made.turn ∙ ap (λ (ts : List (Turn SeenPool)). ts ++ turn m.made.took (seen next.seat) ∷ []) t.made.turns;
        met_none = met_none_on old.seat now.seat next.seat t.made.met_none m.made.met_none;
        alone = λ only. unbroken_to (seen old.seat) t.made.had (seen now.seat) m.made.took (t.made.alone only) (m.made.alone (t.made.met_none.0 ∙ only));
      };
    }

module _ {Dev : Type 0} {G : Ghosts Dev} (s : declared_step.Step) (e : PoolError) where
  module _ {old new : Handle Dev G} where
    last_between : {r : declared_reply.Reply} → MakesAtLast s e r old new → Sees (IsMadeBetween ⊥ s r) old new
    last_between m = between _ _ _ _ _ _ m.made.onward m.made.made

    module _ {A : Type 0} (make : A → declared_reply.Reply) (result : Result A PoolError) (m : MakesAtLast s e (reply_of make result) old new) where
      pub sees_last : (P : A → State → State → Type 0) → ((a : A) (before after : State) → IsMadeBetween ⊥ s (make a) before after → P a before after) → IfOk result (λ a. Sees (P a) old new)
      sees_last P law = by result m
        where
          by : (x : Result A PoolError) → MakesAtLast s e (reply_of make x) old new → IfOk x (λ a. Sees (P a) old new)
          by (Ok a) made = ∥∥₁_map (last_between made) (law a (state_seen old) (state_seen new))
          by (Err f) made = tt

      pub sees_last_refusal : IfErr result (λ f. Sees (IsRefusal s f) old new)
      sees_last_refusal = by result m
        where
          by : (x : Result A PoolError) → MakesAtLast s e (reply_of make x) old new → IfErr x (λ f. Sees (IsRefusal s f) old new)
          by (Ok a) made = tt
          by (Err f) made = ∥∥₁_map (last_between made) (refused_between s f (state_seen old) (state_seen new))
