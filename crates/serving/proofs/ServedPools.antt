-- If a serve ends well, its pool is synced, all bytes of the input are frames, and the output has the opening and their
-- answers.
use Rattle.std.proofs.Common.{[], ◌≡◌, ◌≢◌, ◌⊎◌, ◌++◌, Ok, Err, List, ℕ, ap, append-nil, arith, inl, inr, length, refl, subst, sym, take_all, ◌∙◌}
use Rattle.std.specs.Prelude.{IfOk, IfSome, IsOk, IsSome, IsSomeAnd, IsTrue, None, Option, Result, Some}
use Rattle.std.specs.Io.{StartsWith}
use Rattle.std.specs.Io.KnownBytes.{Appends}
use Rattle.std.proofs.lemmas.Bool.{false≢true}
use Rattle.base.specs.declared.error.PoolError.{PoolError}
use Rattle.base.specs.declared.names.Group.{Group}
use Rattle.device_model.specs.declared.device.SectorDevice.{Ghosts}
use Rattle.file_devices.specs.declared.held_file.FileRefusal.{FileRefusal}
use Rattle.serving.specs.Inputs.{AnswersFrames, BeginsWithFrames, EndsWell, Exchange, ServesFrames, Streams, answers_of, frames_of, program}
use Rattle.serving.specs.declared.inputs.Ending.{Ending}
use Rattle.serving.specs.declared.inputs.Ending.TheVariants.{Done, NoMemory, WriteFailed}
use Rattle.serving.specs.Written.{AppendsFront, WritesFront}
use Rattle.frames.specs.Openings.{bytes_of_opening, bytes_of_unopened}
use Rattle.pool_threads.specs.Handles.{IsNewHandle, OpensBehind, moment_in, opened_in, opening_view, shared_of}
use Rattle.pool_threads.specs.Waits.{SyncsPool}
use Rattle.pool_threads.specs.declared.handle.Handle.{Handle}
use Rattle.pool_threads.specs.declared.handle.LastSeen.{LastSeen}
use Rattle.pool_threads.specs.declared.pool.Pool.{Pool}
use Rattle.pool_threads.specs.declared.shared.Shared.{Shared}
use Rattle.read_commands.specs.Failures.{IsFailureFor, failure_status, refusal_of}
use Rattle.read_commands.specs.declared.failure.Failure.{Failure}
use Rattle.read_commands.specs.declared.failure.Failure.TheVariants as failure
use Rattle.running_pools.specs.LeftDevices.{Closes, ClosesAfter, LosesNothing}
use Rattle.running_pools.proofs.LeftDevices.{closed_still, just_closes}
use Rattle.serving.specs.Serving.{AnswersInput, GivesOrRefuses, IsUnopened, OpensOn, RefusesToServe, SaysUnopened, ServesAndCloses, ServesAndHolds, ServesAndLeaves, ServesOn, ServesOrRefuses, ServesPool, StaysUnopened, StopsAtOpening, opening_of}
use Rattle.serving.proofs.ServedDevices.{closed_holds}
use Rattle.command_arguments.specs.declared.arguments.ServeArguments.{ServeArguments}

-- a failure of the opening is no good end
pub not_done : (e : Ending) → (e ≡ WriteFailed) ⊎ (e ≡ NoMemory) → e ≢ Done
not_done WriteFailed (inl is) done = absurd (let no_way : WriteFailed ≡ Done = done in cc)
not_done e (inl is) done = absurd (let no_way : WriteFailed ≡ Done = sym is ∙ done in cc)
not_done e (inr is) done = absurd (let no_way : NoMemory ≡ Done = sym is ∙ done in cc)

-- the refusal of a failure for a refusal
pub refusal_is : (e : PoolError) (f : Failure) → IsFailureFor e f → refusal_of f ≡ Some e
refusal_is e (failure.Refused r) is = ap (λ (x : PoolError). Some x) is
refusal_is e (failure.RefusedCall r c) is = ap (λ (x : PoolError). Some x) is.0
refusal_is e (failure.OutOfRange n) is = ap (λ (x : PoolError). Some x) (sym is)
refusal_is e (failure.Unusable c) is = absurd is
refusal_is e failure.Unwritten is = absurd is

-- what was written, whole or not, is a front
written_front : {E : Type 0} (r : Result (Unit {0}) E) (a b : Option (List ℕ)) (bs : List ℕ) → WritesFront r a b bs → AppendsFront a b bs
written_front (Ok done) a b bs w = (bs, w, take_all (length bs) bs (omega arith))
written_front (Err e) a b bs w = w

-- a frame that was encoded into an empty list, and then written
pub frame_front : {E : Type 0} (r : Result (Unit {0}) E) (a b : Option (List ℕ)) (empty frame shown bytes : List ℕ) → empty ≡ [] → frame ≡ empty ++ bytes → shown ≡ frame → WritesFront r a b shown → AppendsFront a b bytes
frame_front r a b empty frame shown bytes none is same w = written_front r a b bytes (subst (WritesFront r a b) (same ∙ is ∙ ap (λ (l : List ℕ). l ++ bytes) none) w)

pub frame_whole : (a b : Option (List ℕ)) (empty frame shown bytes : List ℕ) → empty ≡ [] → frame ≡ empty ++ bytes → shown ≡ frame → Appends a b shown → Appends a b bytes
frame_whole a b empty frame shown bytes none is same w = subst (Appends a b) (same ∙ is ∙ ap (λ (l : List ℕ). l ++ bytes) none) w

-- what is so of a result is so of one that says no more
less_said : {E F A : Type 0} (P : A → Type 0) (said : Result A E) (more : Result A F) → IfOk said (λ (x : A). more ≡ Ok x) → IfOk more P → IfOk said P
less_said {F = F} {A = A} P (Ok x) more is p = subst (λ (r : Result A F). IfOk r P) is p
less_said P (Err e) more is p = tt

-- what follows of a value follows if there is one
some_weaker : {A : Type 0} (o : Option A) (P Q : A → Type 0) → ((x : A) → P x → Q x) → IfSome o P → IfSome o Q
some_weaker None P Q each p = tt
some_weaker (Some x) P Q each p = each x p

module _ {Dev : Type 0} {G : Ghosts Dev} {E F : Type 0} (p : Shared Dev G) (opened : List ℕ) (old new : Streams) (said : Result Ending E) (more : Result Ending F) (is : IfOk said (λ (e : Ending). more ≡ Ok e)) where
  -- a serve that ended so ended also with a result that says no more
  stops_less : StopsAtOpening opened more old new → StopsAtOpening opened said old new
  stops_less s = record { failed = less_said (λ (e : Ending). e ≢ Done) said more is s.failed; unread = s.unread; front = s.front }

  abbrev answers_less : AnswersInput p opened more old new → AnswersInput p opened said old new
  answers_less s = record {
    ending = s.ending;
    exchanges = s.exchanges;
    synced = s.synced;
    first = s.first;
    is_new = s.is_new;
    last = s.last;
    serves = s.serves;
    begins = s.begins;
    middle = s.middle;
    opening = s.opening;
    ends = s.ends;
    well = less_said (λ (e : Ending). (e ≡ s.ending) × IsOk s.synced) said more is s.well;
  }

  pub leaves_less : (left : LastSeen Dev G) → ServesAndLeaves p opened more old new left → ServesAndLeaves p opened said old new left
  leaves_less left (inl (s, by)) = inl (stops_less s, by)
  leaves_less left (inr (a, behind)) = inr (answers_less a, behind)

  -- so it is of one whose pool was closed then
  pub closes_less : (left : LastSeen Dev G) (back : Option Dev) → ServesAndLeaves p opened more old new left → IfSome back (ClosesAfter p left) → ServesAndCloses p opened said old new back
  closes_less left back (inl (s, by)) closes = inl (stops_less s)
  closes_less left back (inr (a, behind)) closes = inr (answers_less a, some_weaker back _ _ (λ d c. (left, behind, c)) closes)

-- what was kept of a serve that ended so
pub kept_if : {E F K : Type 0} (said : Result Ending E) (more : Result Ending F) (kept : Option K) → IfOk said (λ (e : Ending). more ≡ Ok e) → (IsOk more → IsSome kept) → IsOk said → IsSome kept
kept_if {F = F} (Ok e) more kept is keeps ok = keeps (subst (λ (r : Result Ending F). IsOk r) (sym is) refl)
kept_if (Err e) more kept is keeps ok = absurd (false≢true ok)

-- a pool that was closed after what a handle had seen was closed
pub some_closes : {Dev : Type 0} {G : Ghosts Dev} (p : Shared Dev G) (left : LastSeen Dev G) (back : Option Dev) → IfSome back (ClosesAfter p left) → IfSome back (Closes p)
some_closes p left back closes = some_weaker back _ _ (just_closes p left) closes

-- no failure has the status of what was done
pub fails : (f : Failure) → failure_status f ≢ 0
fails (failure.Refused r) is = absurd (omega (arith, is))
fails (failure.RefusedCall r c) is = absurd (omega (arith, is))
fails (failure.OutOfRange n) is = absurd (omega (arith, is))
fails (failure.Unusable c) is = absurd (omega (arith, is))
fails failure.Unwritten is = absurd (omega (arith, is))

module _ {Dev : Type 0} (G : Ghosts Dev) (device : Dev) (given : ServeArguments) (status : ℕ) where
  -- a pool that wasn't opened
  pub unserved : (why : Failure) (back : Option Dev) (old new : Streams) → IsUnopened G device given why → SaysUnopened (refusal_of why) old.output new.output → new.input ≡ old.input → status ≢ 0 → GivesOrRefuses G device given status old new back
  unserved why back old new (e, refused, is) said unread failed =
      inr (record { error = e; refused = refused; stays = record { failed = failed; unread = unread; said = subst (λ (r : Option PoolError). SaysUnopened r old.output new.output) is said } })

  -- one that was
  pub served : {K : Type 0} (pool : Pool Dev G) (result : Result Ending Failure) (back : Option Dev) (old : Streams) (new : K → Streams) (kept : Option K) → OpensOn G device given pool → (status ≡ 0 → result ≡ Ok Done) → (IsOk result → IsSome back)
      → IfSome kept (λ (k : K). ServesAndCloses (shared_of pool) (bytes_of_opening (opening_of (opened_in pool))) result old (new k) back) → IfSome kept (λ (k : K). GivesOrRefuses G device given status old (new k) back)
  served pool result back old new None opens done given_back closes = tt
  served pool result back old new (Some k) opens done given_back closes = inl (record {
    pool = pool;
    opens = opens;
    result = result;
    serves = closed_holds device given pool opens (bytes_of_opening (opening_of (opened_in pool))) result old (new k) back closes;
    done = done;
    given_back = λ zero. given_back (subst (λ (r : Result Ending Failure). IsOk r) (sym (done zero)) refl);
  })

  -- what it did, without what came back
  pool_served : {E : Type 0} (pool : Pool Dev G) (opened : List ℕ) (result : Result Ending E) (old new : Streams) (back : Option Dev) → ServesAndHolds (shared_of pool) opened result old new device back → ServesPool (shared_of pool) opened result old new
  pool_served pool opened result old new back (inl stops) = inl stops
  pool_served pool opened result old new back (inr (a, holds)) = inr a

  on_served : (old new : Streams) (back : Option Dev) → GivesOrRefuses G device given status old new back → ServesOn G device given status old new ⊎ RefusesToServe G device given status old new
  on_served old new back (inr r) = inr r
  on_served old new back (inl s) = inl (record {
    pool = s.pool;
    opens = s.opens;
    result = s.result;
    serves = pool_served s.pool (bytes_of_opening (opening_of (opened_in s.pool))) s.result old new back s.serves;
    done = s.done;
  })

  pub all_served : {K : Type 0} (opened : Result Dev FileRefusal) (back : Option Dev) (old : Streams) (new : K → Streams) (kept : Option K) → opened ≡ Ok device
      → IfSome kept (λ (k : K). GivesOrRefuses G device given status old (new k) back) → IfSome kept (λ (k : K). ServesOrRefuses G opened given status old (new k))
  all_served opened back old new kept is served =
      subst (λ (o : Result Dev FileRefusal). IfSome kept (λ k. ServesOrRefuses G o given status old (new k))) (sym is) (some_weaker kept _ _ (λ k s. on_served old (new k) back s) served)

-- the device of a pool that was opened and closed
pub served_still : {Dev : Type 0} (G : Ghosts Dev) (device : Dev) (given : ServeArguments) (pool : Pool Dev G) (back : Option Dev) → OpensOn G device given pool → IfSome back (Closes (shared_of pool)) → IfSome back (LosesNothing G device)
served_still G device given pool back opens closes = closed_still (shared_of pool) device given.dirty_max opens.opens back closes

abbrev bytes_in : Option (List ℕ) → List ℕ
bytes_in (Some bytes) = bytes
bytes_in None = []

-- what an input and an output hold after that, if their bytes are known
pub told : {K : Type 0} (input output : K → List ℕ) (asked held : List ℕ) (status : ℕ) (kept : Option K)
    → IfSome kept (λ (k : K). StaysUnopened None status (record { input = Some asked; output = Some held }) (record { input = Some (input k); output = Some (output k) }))
    → IfSome kept (λ (k : K). (input k ≡ asked) × (system_error : ℕ) × (words : List ℕ) × (front : List ℕ) × (output k ≡ held ++ front) × StartsWith (bytes_of_unopened None system_error words) front)
told input output asked held status None stays = tt
told input output asked held status (Some k) stays = (ap bytes_in stays.unread, stays.said.0, stays.said.1, stays.said.2.0, stays.said.2.1, stays.said.2.2)

-- what is known of a serve whose input and output hold known bytes, by what they hold when it ends
module _ {Dev K : Type 0} (G : Ghosts Dev) (device : Dev) (given : ServeArguments) (input output : K → List ℕ) (asked held : List ℕ) where
  abbrev AnswersAsked : Option K → Type 0
  AnswersAsked kept = (p : Pool Dev G) × OpensBehind (IsTrue G.keeps_model) (G.disk device) given.dirty_max (opening_view (shared_of p)) × (moment_in (shared_of p) ≡ given.moment)
      × (exchanges : List Exchange) × (first served last : Handle Dev G) × (synced : Group) × IsNewHandle (shared_of p) first × AnswersFrames program exchanges first served × SyncsPool (Ok synced) served last
      × (frames_of exchanges ≡ asked) × IsSomeAnd kept (λ k. output k ≡ held ++ bytes_of_opening (opening_of (opened_in p)) ++ answers_of exchanges)

  abbrev streams_then : K → Streams
  streams_then k = record { input = Some (input k); output = Some (output k) }

  abbrev streams_first : Streams
  streams_first = record { input = Some asked; output = Some held }

  -- after the frames of a good end the output has the opening and the answers
  outputs : (opened answers : List ℕ) (middle : Option (List ℕ)) (last : List ℕ) → Appends (Some held) middle opened → Appends middle (Some last) answers → last ≡ held ++ opened ++ answers
  outputs opened answers None last p q = absurd p
  outputs opened answers (Some m) last p q = q ∙ ap (λ (l : List ℕ). l ++ answers) p

  synced_well : (synced : Result Group PoolError) → IsOk synced → (group : Group) × (synced ≡ Ok group)
  synced_well (Ok group) is = (group, refl)
  synced_well (Err e) is = absurd (false≢true is)

  from_input : {E : Type 0} (k : K) (pool : Pool Dev G) → OpensOn G device given pool → AnswersInput {E = E} (shared_of pool) (bytes_of_opening (opening_of (opened_in pool))) (Ok Done) streams_first (streams_then k) → AnswersAsked (Some k)
  from_input k pool opens a =
      let q : EndsWell Done a.exchanges (record { input = Some asked; output = a.middle }) (streams_then k) =
      subst (λ (e : Ending). EndsWell e a.exchanges (record { input = Some asked; output = a.middle }) (streams_then k)) (sym a.well.0) a.ends in
      let (group, is) = synced_well a.synced a.well.1 in
      let f = a.serves in
      let all : frames_of a.exchanges ≡ asked = sym (q.0.reads ∙ ap (λ (l : List ℕ). frames_of a.exchanges ++ l) q.1 ∙ append-nil (frames_of a.exchanges)) in
      let out = outputs (bytes_of_opening (opening_of (opened_in pool))) (answers_of a.exchanges) a.middle (output k) a.opening q.0.writes in
      (pool, opens.opens, opens.moment, a.exchanges, a.first, f.served, a.last, group, a.is_new, f.answers, subst (λ r. SyncsPool r f.served a.last) is f.syncs, all, out)

  from_serve : {E : Type 0} (k : K) (pool : Pool Dev G) → OpensOn G device given pool → (result : Result Ending E) → result ≡ Ok Done → ServesPool (shared_of pool) (bytes_of_opening (opening_of (opened_in pool))) result streams_first (streams_then k) → AnswersAsked (Some k)
  from_serve {E} k pool opens result done serves =
      by (subst (λ (r : Result Ending E). ServesPool (shared_of pool) (bytes_of_opening (opening_of (opened_in pool))) r streams_first (streams_then k)) done serves)
    where
      by : ServesPool {E = E} (shared_of pool) (bytes_of_opening (opening_of (opened_in pool))) (Ok Done) streams_first (streams_then k) → AnswersAsked (Some k)
      by (inl stops) = absurd (stops.failed refl)
      by (inr answers) = from_input k pool opens answers

  pub all_answered : (kept : Option K) (status : ℕ) → status ≡ 0 → IsSome kept → IfSome kept (λ k. ServesOrRefuses G (Ok device) given status streams_first (streams_then k)) → AnswersAsked kept
  all_answered None status zero some served = absurd (false≢true some)
  all_answered (Some k) status zero some (inl s) = from_serve k s.pool s.opens s.result (s.done zero) s.serves
  all_answered (Some k) status zero some (inr r) = absurd (r.stays.failed zero)
