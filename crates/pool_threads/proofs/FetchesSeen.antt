-- What a fetch says to its handle, and what the only handle leaves by it.
use Rattle.std.proofs.Common.{◌≡◌, ◌||◌, Bool, true, false, not, List, ℕ, [], ◌∷◌, inl, inr, refl, sym, ap, subst, ◌∙◌}
use Rattle.std.specs.Prelude.{IfErr, IfOk, IsTrue, None, Option, Result, Ok, Err, Some, is_none, nat_le}
use Rattle.std.proofs.Math.Logic.{∥∥₁_map, ∥∥₁_elim, ∥∥₁_prop}
use Rattle.std.proofs.lemmas.List.Elements.{All-weaker}
use Rattle.base.specs.declared.error.PoolError.{PoolError}
use Rattle.base.specs.declared.error.PoolError.TheVariants as error
use Rattle.base.specs.declared.names.ObjectId.{ObjectId}
use Rattle.base.specs.declared.names.Owner.{Owner}
use Rattle.base.specs.declared.range.Mode.TheVariants.{Reader}
use Rattle.base.specs.declared.range.Range.{Range}
use Rattle.base.specs.declared.step.Step.TheVariants as step
use Rattle.base.specs.formats.Limits.{object_count}
use Rattle.base.specs.history.Contents.{length_of}
use Rattle.base.specs.history.Plans.{NumberRange}
use Rattle.base.specs.steps.Locks.{is_covered, is_range_allowed}
use Rattle.base.specs.steps.Refusals.{first_refusal, object_range, read_refusal, refused_if}
use Rattle.base.specs.steps.Seen.{IsReadBetween}
use Rattle.base.specs.steps.SeenLaws.{is_untested}
use Rattle.base.specs.steps.Shown.{Shown}
use Rattle.base.specs.steps.Steps.{State}
use Rattle.base.proofs.steps.SeenStates.{reads_are_seen}
use Rattle.device_model.specs.declared.device.SectorDevice.{Ghosts}
use Rattle.pool_threads.specs.declared.handle.Handle.{Handle}
use Rattle.pool_threads.specs.Answers.{IsRefusal, Sees, Takes, TakesOne, state_seen}
use Rattle.pool_threads.specs.Fetches.{Fetches, IsFetchRefusal, IsFetchTurn, IsRefusedLock, KeepsFromReading, LeavesNoLock, MakesFetch, ReadsUnderLock, ShowsSame, reader_step}
use Rattle.pool_threads.specs.Handles.{kin_of}
use Rattle.pool_threads.specs.Views.{GrowsTo, SeenPool, grows_onward, grows_same, viewed_state}
use Rattle.pool_threads.proofs.AloneSteps.{Leaves, tries_leave}
use Rattle.pool_threads.proofs.Along.{GoesAlong, one_grows, seen_in, seen_in_on}
use Rattle.pool_threads.proofs.Answered.{refused_between}
use Rattle.pool_threads.proofs.Fetched.{shows_same}
use Rattle.pool_threads.proofs.Released.{lock_refused}
use Rattle.pool_threads.proofs.Tried.{at_last, one_more_turn}
use Rattle.word_lock.specs.declared.rule.Turn.{Turn}
use Rattle.word_lock.specs.Seats.{seen}

-- a read is refused as busy never
no_busy_test : (a b c d : Bool) → first_refusal (refused_if a error.Suspended ∷ refused_if b error.BadRange ∷ refused_if c error.NotLocked ∷ refused_if d error.NoObject ∷ []) ≡ Some error.Busy → ⊥
no_busy_test true b c d is = let no_way : Some error.Suspended ≡ Some error.Busy = is in cc
no_busy_test false true c d is = let no_way : Some error.BadRange ≡ Some error.Busy = is in cc
no_busy_test false false true d is = let no_way : Some error.NotLocked ≡ Some error.Busy = is in cc
no_busy_test false false false true is = let no_way : Some error.NoObject ≡ Some error.Busy = is in cc
no_busy_test false false false false is = let no_way : None ≡ Some error.Busy = is in cc

no_busy_read : (owner : ℕ) (range : NumberRange) (s : Shown) → read_refusal owner range s ≡ Some error.Busy → ⊥
no_busy_read owner range s is =
    no_busy_test s.suspended (nat_le object_count range.number || not (is_range_allowed range.low range.high)) (not (is_covered owner range s.locks)) (is_none (length_of s.contents range.number)) is

busy_is_ruled : (owner : Owner) (n : ObjectId) (range : Range) (e : PoolError) (before after : State) → IsRefusal (step.Read owner n range) e before after → e ≡ error.Busy → ⊥
busy_is_ruled owner n range e before after r is =
    let ruled = r.ruled (ap is_untested is) in
    no_busy_read owner.0 (object_range n.0 range.low range.high) ruled.state.shown (ruled.refused ∙ ap (λ (f : PoolError). Some f) is)

-- a lock leaves all as it is when it is refused
pub lock_leaves : (owner : Owner) (n : ObjectId) (range : Range) → Leaves (reader_step owner n range) error.Busy
lock_leaves owner n range old new one = lock_refused [] owner n range Reader error.Busy old new one

module _ (keeps : Type 0) (owner : Owner) (n : ObjectId) (range : Range) where
  module _ (result : Result (List ℕ) PoolError) (v w : SeenPool) (t : ReadsUnderLock keeps owner n range result v w) where
    after_read : GrowsTo keeps t.read w
    after_read = one_grows t.unlocks

    under_grows : GrowsTo keeps v w
    under_grows = grows_onward keeps v t.locked w (one_grows t.locks) (grows_onward keeps t.locked t.read w (one_grows t.reads) after_read)

    under_shows : ∥ ShowsSame (viewed_state v) (viewed_state w) ∥₁
    under_shows =
        ∥∥₁_elim t.locks.explained ∥∥₁_prop (λ x.
        ∥∥₁_elim t.locks.step ∥∥₁_prop (λ locks.
        ∥∥₁_elim t.reads.step ∥∥₁_prop (λ reads.
        ∥∥₁_map {B = ShowsSame (viewed_state v) (viewed_state w)} t.unlocks.step
        (λ unlocks. shows_same [] owner n range t.id (viewed_state v) (viewed_state t.locked) x locks _ t.answer (viewed_state t.read) (viewed_state w) reads unlocks))))

  -- a refused lock leaves all as it is
  refused_shows : (e : PoolError) (v w : SeenPool) → IsRefusedLock keeps owner n range e v w → ∥ ShowsSame (viewed_state v) (viewed_state w) ∥₁
  refused_shows e v w refused =
      ∥∥₁_map {B = ShowsSame (viewed_state v) (viewed_state w)} refused.step
      (λ one. subst (λ (s : State). ShowsSame (viewed_state v) s) (sym (lock_refused [] owner n range Reader e (viewed_state v) (viewed_state w) one)) refl)

  -- a turn of a fetch leads on, and leaves what is shown
  pub fetch_grows : (o : Option (Result (List ℕ) PoolError)) (v w : SeenPool) → MakesFetch keeps owner n range o v w → GrowsTo keeps v w
  fetch_grows None v w (refused, free) = one_grows refused
  fetch_grows (Some (Ok bytes)) v w t = under_grows (Ok bytes) v w t
  fetch_grows (Some (Err e)) v w (inl (refused, own)) = one_grows refused
  fetch_grows (Some (Err e)) v w (inr t) = under_grows (Err e) v w t

  fetch_shows : (result : Result (List ℕ) PoolError) (v w : SeenPool) → MakesFetch keeps owner n range (Some result) v w → ∥ ShowsSame (viewed_state v) (viewed_state w) ∥₁
  fetch_shows (Ok bytes) v w t = under_shows (Ok bytes) v w t
  fetch_shows (Err e) v w (inl (refused, own)) = refused_shows e v w refused
  fetch_shows (Err e) v w (inr t) = under_shows (Err e) v w t

  -- all of it was made
  pub was_fetched : (result : Result (List ℕ) PoolError) (v w : SeenPool) → ReadsUnderLock keeps owner n range result v w → MakesFetch keeps owner n range (Some result) v w
  was_fetched (Ok bytes) v w t = t
  was_fetched (Err e) v w t = inr t

module _ {Dev : Type 0} {G : Ghosts Dev} (owner : Owner) (n : ObjectId) (range : Range) where
  -- so far the lock was refused
  abbrev pub Tries : Handle Dev G → Handle Dev G → Type 0
  Tries = Takes (IsFetchTurn (IsTrue G.keeps_model) owner n range None)

  module _ (o : Option (Result (List ℕ) PoolError)) (old now next : Handle Dev G) (t : Tries old now) (m : TakesOne (IsFetchTurn (IsTrue G.keeps_model) owner n range o) now next) where
    made_as : (p : Option (Result (List ℕ) PoolError)) → o ≡ p → TakesOne (IsFetchTurn (IsTrue G.keeps_model) owner n range p) now next
    made_as p is = subst (λ (q : Option (Result (List ℕ) PoolError)). TakesOne (IsFetchTurn (IsTrue G.keeps_model) owner n range q) now next) is m

    pub tried_on : o ≡ None → Tries old next
    tried_on is = let one = made_as None is in one_more_turn _ t one (fetch_grows (IsTrue G.keeps_model) owner n range None one.made.took (seen next.seat) one.made.made)

    pub fetched_at_last : (result : Result (List ℕ) PoolError) → o ≡ Some result → Fetches owner n range result old next
    fetched_at_last result is = at_last _ t (made_as (Some result) is)

  module _ (result : Result (List ℕ) PoolError) (old new : Handle Dev G) (u : Fetches owner n range result old new) where
    abbrev took : SeenPool
    took = u.made.took

    abbrev left : SeenPool
    left = seen new.seat

    pub fetches_along : GoesAlong old new
    fetches_along = record {
      same_pool = u.same_pool;
      onward = grows_onward (IsTrue G.keeps_model) (seen old.seat) took left u.made.onward (fetch_grows (IsTrue G.keeps_model) owner n range (Some result) took left u.made.made);
      met_none = u.made.met_none;
    }

    -- the read of one that got its lock is one between what the handle had seen and has seen
    up_to_lock : (t : ReadsUnderLock (IsTrue G.keeps_model) owner n range result took left) → GrowsTo (IsTrue G.keeps_model) (seen old.seat) t.locked
    up_to_lock t = grows_onward (IsTrue G.keeps_model) (seen old.seat) took t.locked u.made.onward (one_grows t.locks)

    -- its tries have left all as it was, if nothing lies between them
    pub took_is : kin_of old ≡ 0 → ∥ viewed_state took ≡ state_seen old ∥₁
    took_is only =
        tries_leave (IsTrue G.keeps_model) (reader_step owner n range) error.Busy u.made.had (seen old.seat) took (lock_leaves owner n range)
        (All-weaker (IsFetchTurn (IsTrue G.keeps_model) owner n range None) (λ (t : Turn SeenPool). IsRefusedLock (IsTrue G.keeps_model) owner n range error.Busy t.took t.left) (λ t both. both.0) u.made.had u.made.each) (u.made.alone only)

    pub leaves_no_lock : LeavesNoLock old new
    leaves_no_lock only =
        ∥∥₁_elim (took_is only) ∥∥₁_prop (λ same.
        ∥∥₁_map {B = ShowsSame (state_seen old) (state_seen new)} (fetch_shows (IsTrue G.keeps_model) owner n range result took left u.made.made)
        (λ shows. subst (λ (s : State). ShowsSame s (state_seen new)) same shows))

  pub fetches_seen : IsTrue G.keeps_model → (result : Result (List ℕ) PoolError) (old new : Handle Dev G) → Fetches owner n range result old new → IfOk result (λ bytes. Sees (IsReadBetween (object_range n.0 range.low range.high) bytes) old new)
  fetches_seen keeps (Ok bytes) old new u =
      let t = u.made.made in
      ∥∥₁_map {B = IsReadBetween (object_range n.0 range.low range.high) bytes (state_seen old) (state_seen new)}
      (seen_in_on keeps (seen old.seat) t.locked t.read (seen new.seat) (up_to_lock (Ok bytes) old new u t) t.reads (one_grows t.unlocks))
      (reads_are_seen owner n range bytes (state_seen old) (state_seen new))
  fetches_seen keeps (Err e) old new u = tt

  pub refusals_seen : (result : Result (List ℕ) PoolError) (old new : Handle Dev G) → Fetches owner n range result old new → IfErr result (λ e. Sees (IsFetchRefusal owner n range e) old new)
  refusals_seen (Ok bytes) old new u = tt
  refusals_seen (Err e) old new u = by u.made.made
    where
      by : MakesFetch (IsTrue G.keeps_model) owner n range (Some (Err e)) u.made.took (seen new.seat) → Sees (IsFetchRefusal owner n range e) old new
      by (inl (refused, own)) =
          ∥∥₁_map {B = IsFetchRefusal owner n range e (state_seen old) (state_seen new)} (seen_in (seen old.seat) u.made.took (seen new.seat) (seen new.seat) u.made.onward refused (grows_same (IsTrue G.keeps_model) (seen new.seat)))
          (λ b. inl (refused_between _ e (state_seen old) (state_seen new) b))
      by (inr t) =
          ∥∥₁_map {B = IsFetchRefusal owner n range e (state_seen old) (state_seen new)} (seen_in (seen old.seat) t.locked t.read (seen new.seat) (up_to_lock (Err e) old new u t) t.reads (one_grows t.unlocks))
          (λ b. inr (refused_between _ e (state_seen old) (state_seen new) b))

  pub busy_by_own : (result : Result (List ℕ) PoolError) (old new : Handle Dev G) → Fetches owner n range result old new → IfErr result (λ e. e ≡ error.Busy → KeepsFromReading owner n range (seen new.seat))
  busy_by_own (Ok bytes) old new u = tt
  busy_by_own (Err e) old new u = by u.made.made
    where
      none : (x y : ⊥) → x ≡ y
      none x y = absurd x

      by : MakesFetch (IsTrue G.keeps_model) owner n range (Some (Err e)) u.made.took (seen new.seat) → e ≡ error.Busy → KeepsFromReading owner n range (seen new.seat)
      by (inl (refused, own)) = own
      by (inr t) = λ is. absurd
          (∥∥₁_elim (seen_in t.locked t.locked t.read t.read (grows_same (IsTrue G.keeps_model) t.locked) t.reads (grows_same (IsTrue G.keeps_model) t.read)) none
          (λ b. busy_is_ruled owner n range e (viewed_state t.locked) (viewed_state t.read) (refused_between _ e (viewed_state t.locked) (viewed_state t.read) b) is))
