-- What callers take from the turns of one fetch.
use Rattle.std.proofs.Common.{◌≡◌, ◌++◌, ◌∷◌, List, [], ℕ, append-nil, ap, inl, inr, refl, subst, sym, ◌∙◌}
use Rattle.std.specs.Prelude.{◌⊎◌, All, IfErr, IfOk, IsTrue, None, Result, Ok, Err, Some}
use Rattle.std.proofs.Math.Logic.{∥∥₁_elim}
use Rattle.std.proofs.lemmas.List.Elements.{All-head}
use Rattle.base.specs.declared.error.PoolError.{PoolError}
use Rattle.base.specs.declared.error.PoolError.TheVariants as error
use Rattle.base.specs.declared.names.LockId.{LockId}
use Rattle.base.specs.declared.names.ObjectId.{ObjectId}
use Rattle.base.specs.declared.names.Owner.{Owner}
use Rattle.base.specs.declared.range.Mode.TheVariants.{Reader}
use Rattle.base.specs.declared.range.Range.{Range}
use Rattle.base.specs.declared.step.Step as declared_step
use Rattle.base.specs.declared.step.Step.TheVariants as step
use Rattle.base.specs.declared.step.Reply as declared_reply
use Rattle.base.specs.declared.step.Reply.TheVariants as reply
use Rattle.base.specs.steps.Refusals.{object_range}
use Rattle.base.specs.steps.Runs.{refusal_of_step, reply_of}
use Rattle.base.specs.steps.Shown.{Shown}
use Rattle.base.specs.steps.Steps.{State}
use Rattle.base.proofs.steps.StepEffects.{Answered, step_does}
use Rattle.base.proofs.steps.StepEffects.Answered.{tested, untested, made}
use Rattle.device_model.specs.declared.device.SectorDevice.{Ghosts}
use Rattle.pool_core.specs.StepReplies.{IsStep}
use Rattle.pool_threads.specs.declared.handle.Handle.{Handle}
use Rattle.pool_threads.specs.Answers.{state_seen}
use Rattle.pool_threads.specs.Fetches.{Fetches, IsFetchTurn, MakesFetch, ReadsUnderLock, reader_step}
use Rattle.pool_threads.specs.Handles.{kin_of, turns_of, view_seen}
use Rattle.pool_threads.specs.Turns.{AreUnbroken}
use Rattle.pool_threads.specs.Vain.{IsInOwnWay}
use Rattle.pool_threads.specs.Views.{IsPoolStep, SeenPool, viewed_state}
use Rattle.pool_threads.proofs.FetchesSeen.{took_is}
use Rattle.pool_threads.proofs.WaitsSeen.{tested-there}
use Rattle.word_lock.specs.declared.rule.Turn.{Turn}
use Rattle.word_lock.specs.Turns.{turn}

-- a step that a test would refuse is refused so, and leaves all as it is
refused_so : (s : declared_step.Step) (r : declared_reply.Reply) (e : PoolError) (a b : State) → IsStep s r a b → refusal_of_step s a.shown ≡ Some e → (r ≡ reply.Refused e) × (b ≡ a)
refused_so s r e a b one is = by (step_does ⊥ [] s r a b one).answer
  where
    by : Answered s r a b → (r ≡ reply.Refused e) × (b ≡ a)
    by (tested f given found stays) =
        let same : f ≡ e = (let both : Some f ≡ Some e = sym found ∙ is in cc) in
        (given ∙ ap (λ (x : PoolError). reply.Refused x) same, stays)
    by (untested f given own loud none) = absurd (let no_way : None ≡ Some e = sym none ∙ is in cc)
    by (made answers none) = absurd (let no_way : None ≡ Some e = sym none ∙ is in cc)

none : (x y : ⊥) → x ≡ y
none x y = absurd x

module _ {Dev : Type 0} {G : Ghosts Dev} (owner : Owner) (n : ObjectId) (range : Range) (old new : Handle Dev G) where
  -- the last turn, of which this is so
  abbrev pub AtLast : (SeenPool → Type 0) → Type 0
  AtLast P = (tries : List (Turn SeenPool)) × (took : SeenPool) × (turns_of new ≡ (turns_of old ++ tries) ++ turn took (view_seen new) ∷ []) × P took

  -- all steps of a fetch that got its lock, with this result of the read
  abbrev pub AllSteps : Result (List ℕ) PoolError → SeenPool → Type 0
  AllSteps result took = (id : LockId) × (answer : Result (Unit {0}) PoolError) × (locked : SeenPool) × (read : SeenPool) × IsPoolStep (IsTrue G.keeps_model) (step.Lock owner n range Reader) (reply.Locked id) took locked
      × IsPoolStep (IsTrue G.keeps_model) (step.Read owner n range) (reply_of (λ bytes. reply.Bytes bytes) result) locked read
      × IsPoolStep (IsTrue G.keeps_model) (step.Unlock owner id) (reply_of (λ _. reply.Done) answer) read (view_seen new)

  all_steps : (result : Result (List ℕ) PoolError) (took : SeenPool) → ReadsUnderLock (IsTrue G.keeps_model) owner n range result took (view_seen new) → AllSteps result took
  all_steps result took t = (t.id, t.answer, t.locked, t.read, t.locks, t.reads, t.unlocks)

  -- and of one that has read these bytes
  abbrev pub LastSteps : List ℕ → Type 0
  LastSteps bytes = (tries : List (Turn SeenPool)) × (took : SeenPool) × (turns_of new ≡ (turns_of old ++ tries) ++ turn took (view_seen new) ∷ []) × (id : LockId) × (answer : Result (Unit {0}) PoolError) × (locked : SeenPool) × (read : SeenPool)
      × IsPoolStep (IsTrue G.keeps_model) (step.Lock owner n range Reader) (reply.Locked id) took locked × IsPoolStep (IsTrue G.keeps_model) (step.Read owner n range) (reply.Bytes bytes) locked read
      × IsPoolStep (IsTrue G.keeps_model) (step.Unlock owner id) (reply_of (λ _. reply.Done) answer) read (view_seen new)

  pub takes_all_steps : (result : Result (List ℕ) PoolError) → Fetches owner n range result old new → IfOk result LastSteps
  takes_all_steps (Ok bytes) u = let t = u.made.made in (u.made.had, u.made.took, u.made.turn, t.id, t.answer, t.locked, t.read, t.locks, t.reads, t.unlocks)
  takes_all_steps (Err e) u = tt

  pub unlocks_refused : (result : Result (List ℕ) PoolError) → Fetches owner n range result old new
      → IfErr result (λ e. AtLast (λ took. IsPoolStep (IsTrue G.keeps_model) (step.Lock owner n range Reader) (reply.Refused e) took (view_seen new) ⊎ AllSteps (Err e) took))
  unlocks_refused (Ok bytes) u = tt
  unlocks_refused (Err e) u = (u.made.had, u.made.took, u.made.turn, by u.made.made)
    where
      by : MakesFetch (IsTrue G.keeps_model) owner n range (Some (Err e)) u.made.took (view_seen new) → IsPoolStep (IsTrue G.keeps_model) (step.Lock owner n range Reader) (reply.Refused e) u.made.took (view_seen new) ⊎ AllSteps (Err e) u.made.took
      by (inl (refused, own)) = inl refused
      by (inr t) = inr (all_steps (Err e) u.made.took t)

  abbrev InWay : Shown → Type 0
  InWay s = IsInOwnWay owner (object_range n.0 range.low range.high) Reader s

  -- a lock that was refused while none of its owner stood in its way would be refused again
  module _ (at : State) (busy : refusal_of_step (reader_step owner n range) at.shown ≡ Some error.Busy) (free : InWay at.shown → ⊥) (took : SeenPool) (same : viewed_state took ≡ at) where
    so_again : (r : declared_reply.Reply) (next : SeenPool) → IsPoolStep (IsTrue G.keeps_model) (reader_step owner n range) r took next → ((r ≡ reply.Refused error.Busy) → viewed_state next ≡ at → ⊥) → ⊥
    so_again r next one never =
        ∥∥₁_elim one.step none (λ made.
        let done = refused_so (reader_step owner n range) r error.Busy (viewed_state took) (viewed_state next) made (ap (λ (s : State). refusal_of_step (reader_step owner n range) s.shown) same ∙ busy) in
        never done.0 (done.1 ∙ same))

    never_locked : (result : Result (List ℕ) PoolError) (w : SeenPool) → ReadsUnderLock (IsTrue G.keeps_model) owner n range result took w → ⊥
    never_locked result w t = so_again (reply.Locked t.id) t.locked t.locks (λ is stays. let no_way : reply.Locked t.id ≡ reply.Refused error.Busy = is in cc)

    never_ends : (result : Result (List ℕ) PoolError) (w : SeenPool) → MakesFetch (IsTrue G.keeps_model) owner n range (Some result) took w → ⊥
    never_ends (Ok bytes) w t = never_locked (Ok bytes) w t
    never_ends (Err e) w (inr t) = never_locked (Err e) w t
    never_ends (Err e) w (inl (refused, own)) = so_again (reply.Refused e) w refused
        (λ is stays. let same_error : e ≡ error.Busy = cc in free (subst (λ (s : State). InWay s.shown) stays (own same_error)))

  -- so the only handle doesn't try twice
  pub fetch_once : (result : Result (List ℕ) PoolError) → Fetches owner n range result old new → kin_of old ≡ 0 → turns_of new ≡ turns_of old ++ turn (view_seen old) (view_seen new) ∷ []
  fetch_once result u only = by u.made.had u.made.each (u.made.alone only) u.made.turn
    where
      by : (had : List (Turn SeenPool)) → All (IsFetchTurn (IsTrue G.keeps_model) owner n range None) had → AreUnbroken (view_seen old) had u.made.took
          → turns_of new ≡ (turns_of old ++ had) ++ turn u.made.took (view_seen new) ∷ [] → turns_of new ≡ turns_of old ++ turn (view_seen old) (view_seen new) ∷ []
      by [] all line turned =
          turned ∙ ap (λ (ts : List (Turn SeenPool)). ts ++ turn u.made.took (view_seen new) ∷ []) (append-nil (turns_of old)) ∙ ap (λ (v : SeenPool). turns_of old ++ turn v (view_seen new) ∷ []) line
      by (t ∷ ts) all line turned = absurd
          (∥∥₁_elim (took_is owner n range result old new u only) none (λ same.
          let first = All-head (IsFetchTurn (IsTrue G.keeps_model) owner n range None) t ts all in
          ∥∥₁_elim first.0.step none (λ one.
          let refused = tested-there (reader_step owner n range) error.Busy (viewed_state t.took) (viewed_state t.left) one refl in
          let took : viewed_state t.took ≡ state_seen old = ap (λ (v : SeenPool). viewed_state v) line.0 in
          let busy : refusal_of_step (reader_step owner n range) (state_seen old).shown ≡ Some error.Busy = ap (λ (s : State). refusal_of_step (reader_step owner n range) s.shown) (sym took) ∙ refused.0 in
          let free : InWay (state_seen old).shown → ⊥ = subst (λ (s : State). InWay s.shown → ⊥) (refused.1 ∙ took) first.1 in
          never_ends (state_seen old) busy free u.made.took same result (view_seen new) u.made.made)))
