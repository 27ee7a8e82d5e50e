-- A call that is made again waits only while its own owner doesn't stand in its way.
use Rattle.std.proofs.Common.{◌≡◌, ◌++◌, ◌∷◌, [], List, ap, refl, subst, ◌∙◌}
use Rattle.std.proofs.lemmas.List.Elements.{All-weaker}
use Rattle.std.specs.Prelude.{IsTrue, Result, Err}
use Rattle.base.specs.declared.error.PoolError.{PoolError}
use Rattle.base.specs.declared.step.Step as declared_step
use Rattle.base.specs.declared.step.Reply as declared_reply
use Rattle.base.specs.declared.step.Reply.TheVariants as reply
use Rattle.base.specs.steps.Runs.{reply_of}
use Rattle.base.specs.steps.Shown.{Shown}
use Rattle.device_model.specs.declared.device.SectorDevice.{Ghosts}
use Rattle.pool_threads.specs.declared.handle.Handle.{Handle}
use Rattle.pool_threads.specs.Answers.{Makes, MakesAtLast, Takes, TakesOne, WaitsWhileNot, state_seen}
use Rattle.pool_threads.specs.Turns.{IsStepTurn}
use Rattle.pool_threads.specs.Views.{SeenPool, viewed_state}
use Rattle.pool_threads.proofs.Tried.{at_last, one_more_turn}
use Rattle.pool_threads.proofs.Turned.{grows_by_one}
use Rattle.word_lock.specs.declared.rule.Turn.{Turn}
use Rattle.word_lock.specs.Seats.{seen}
use Rattle.word_lock.specs.Turns.{turn}

module _ (keeps : Type 0) (s : declared_step.Step) (e : PoolError) (V : Shown → Type 0) where
  -- in this turn the step was refused so, and of the pool that it left this was not so
  abbrev pub IsTryInTime : Turn SeenPool → Type 0
  IsTryInTime t = IsStepTurn keeps s (reply.Refused e) t × (V (viewed_state t.left).shown → ⊥)

module _ {Dev : Type 0} {G : Ghosts Dev} (s : declared_step.Step) (e : PoolError) (V : Shown → Type 0) where
  -- so far the handle had such turns alone
  abbrev pub TriesInTime : Handle Dev G → Handle Dev G → Type 0
  TriesInTime = Takes (IsTryInTime (IsTrue G.keeps_model) s e V)

  -- a call whose answer is that refusal is one more try
  pub refused_again : {A : Type 0} (make : A → declared_reply.Reply) {old now next : Handle Dev G} (x : Result A PoolError) → x ≡ Err e → (V (state_seen next).shown → ⊥) → TriesInTime old now → Makes s (reply_of make x) now next
      → TriesInTime old next
  refused_again {A} make {old} {now} {next} x is not t m = by (subst (λ (y : Result A PoolError). Makes s (reply_of make y) now next) is m)
    where
      by : Makes s (reply.Refused e) now next → TriesInTime old next
      by n = one_more_turn (IsTryInTime (IsTrue G.keeps_model) s e V) t (record {
        same_pool = n.same_pool;
        made = record { took = n.made.took; onward = n.made.onward; made = (n.made.made, not); turn = n.made.turn; met_none = n.made.met_none; alone = n.made.alone };
      }) (grows_by_one _ _ _ _ _ _ refl n.made.made)

  module _ {old now : Handle Dev G} (t : TriesInTime old now) where
    tries : Takes (IsStepTurn (IsTrue G.keeps_model) s (reply.Refused e)) old now
    tries = record {
      same_pool = t.same_pool;
      made = record {
        had = t.made.had;
        each = All-weaker (IsTryInTime (IsTrue G.keeps_model) s e V) (IsStepTurn (IsTrue G.keeps_model) s (reply.Refused e)) (λ u both. both.0) t.made.had t.made.each;
        onward = t.made.onward;
        turns = t.made.turns;
        met_none = t.made.met_none;
        alone = t.made.alone;
      };
    }

    -- the last one
    pub made_at_last : {r : declared_reply.Reply} {next : Handle Dev G} → Makes s r now next → MakesAtLast s e r old next
    made_at_last m = at_last (IsStepTurn (IsTrue G.keeps_model) s (reply.Refused e)) tries m

    pub waited_while_not : {P : Turn SeenPool → Type 0} {next : Handle Dev G} → TakesOne P now next → WaitsWhileNot V old next
    waited_while_not {P} {next} m = record {
      had = t.made.had;
      each = All-weaker (IsTryInTime (IsTrue G.keeps_model) s e V) (λ (u : Turn SeenPool). V (viewed_state u.left).shown → ⊥) (λ u both. both.1) t.made.had t.made.each;
      last = turn m.made.took (seen next.seat);
      turns = m.made.turn ∙ ap (λ (ts : List (Turn SeenPool)). ts ++ turn m.made.took (seen next.seat) ∷ []) t.made.turns;
    }
