-- The answers to requests fit the room that is kept for them, over a device that keeps the disk model.
use Rattle.std.proofs.Common.{◌≡◌, ◌≤◌, ◌<◌, ◌+◌, ◌-◌, ◌∷◌, ◌&&◌, ℕ, [], List, ap, arith, inl, inr, length, length-append, refl, subst, sym, ◌∙◌}
use Rattle.std.specs.Prelude.{Err, IfErr, IfOk, IfSome, IsOk, IsTrue, None, Ok, Option, Result, Some, false, is_none, min, nat_le, nat_lt, option_map, slice_index, sum_by, true}
use Rattle.std.specs.FinMap as finite
use Rattle.std.specs.List.{flat_map, list_all}
use Rattle.std.proofs.Math.Bridge.{le_prop}
use Rattle.std.proofs.Math.Logic.{∥∥₁_elim}
use Rattle.std.proofs.Math.Nat.{le-min, min-le_left, min-le_right}
use Rattle.std.proofs.lemmas.Bool.{and_parts, false≢true, leb-true}
use Rattle.std.proofs.lemmas.List.{length-drop, length-take}
use Rattle.std.proofs.lemmas.List.Sums.{sum_by-cons}
use Rattle.base.specs.declared.error.PoolError.{PoolError}
use Rattle.base.specs.declared.names.ObjectId.{ObjectId}
use Rattle.base.specs.declared.names.Owner.{Owner}
use Rattle.base.specs.declared.range.Range.{Range}
use Rattle.base.specs.declared.step.Reply.TheVariants as reply
use Rattle.base.specs.declared.step.Step.TheVariants as step
use Rattle.base.specs.disk.Disk.{bytes_of}
use Rattle.base.specs.formats.Limits.{max_length, max_name, object_count}
use Rattle.base.specs.formats.Names.{IsName, is_letter, is_name_byte, is_name_length}
use Rattle.base.specs.steps.Tables.{AreTablesExplained}
use Rattle.base.specs.steps.Refusals as refusal
use Rattle.base.specs.steps.Refusals.{object_range}
use Rattle.base.specs.steps.Runs.{Step}
use Rattle.base.specs.steps.Steps.{State, bytes_in}
use Rattle.base.proofs.history.CommitOrder.{no_refusal, ok-none}
use Rattle.device_model.specs.declared.device.SectorDevice.{Ghosts}
use Rattle.frames.specs.Answers.{bytes_of_answer, bytes_of_listed, bytes_of_outcome, size_of_answers}
use Rattle.frames.specs.Limits.{least_room}
use Rattle.frames.specs.Requests.{room_of_answers, room_of_call}
use Rattle.frames.specs.declared.answer.Answer.{Answer}
use Rattle.frames.specs.declared.answer.Outcome.{Outcome}
use Rattle.frames.specs.declared.answer.Outcome.TheVariants as outcome
use Rattle.frames.specs.declared.listing.Listed.{Listed}
use Rattle.frames.specs.declared.request.Call.{Call}
use Rattle.frames.specs.declared.request.Call.TheVariants as call
use Rattle.frames.specs.declared.request.Request.{Request}
use Rattle.frames.proofs.Appended.{length-listed}
use Rattle.pool_threads.specs.declared.handle.Handle.{Handle}
use Rattle.pool_threads.specs.Answers.{Makes, state_seen}
use Rattle.pool_threads.specs.Fetches.{Fetches}
use Rattle.pool_threads.specs.Views.{viewed_state}
use Rattle.durable_answers.specs.Durability.{Asks, AsksAll, MakesDurable}
use Rattle.serving.specs.Calls.{ListsObjects, MakesCall, MakesCalls, outcome_of}
use Rattle.serving.proofs.ListedBelow.{room_below}

-- what can't fail is never refused
pub never_err : {A E : Type 0} (P : E → Type 0) (result : Result A E) → IsOk result → IfErr result P
never_err P (Ok x) ok = tt
never_err P (Err e) ok = absurd (false≢true ok)

-- what is read of an object is no longer than it, and than the range
read_short : (owner : Owner) (n : ObjectId) (range : Range) (bytes now : List ℕ) (s t : State) → AreTablesExplained s.shown s.past → Step (Unit {0}) now (step.Read owner n range) (reply.Bytes bytes) s t → length bytes ≤ min (range.high - range.low) max_length
read_short owner n range bytes now s t x (Err e, is, h) = absurd (let no_way : reply.Bytes bytes ≡ reply.Refused e = is in cc)
read_short owner n range bytes now s t x (Ok bs, is, h) =
    let wanted = object_range n.0 range.low range.high in
    let done = ok-none (refusal.read_refusal owner.0 wanted s.shown) bs s t _ _ h in
    let there = no_refusal (refusal.read_tests owner.0 wanted s.shown) done.0 3 _ refl in
    let same : bytes ≡ bs = cc in
    by (finite.get s.shown.contents.objects n.0) same there (x.exact.bounded.objects n.0) (done.1.0 tt)
  where
    by : (o : Option (List ℕ)) → bytes ≡ bs → is_none (option_map length o) ≡ false → IfSome o (λ all. (n.0 < object_count) × (length all ≤ max_length) × (list_all (λ b. nat_lt b 256) all ≡ true)) → IfSome o (λ all. bs ≡ bytes_in (object_range n.0 range.low range.high) all) → length bytes ≤ min (range.high - range.low) max_length
    by None same there bounded read = absurd (false≢true (sym there))
    by (Some all) same there bounded read =
        let long : length bytes ≡ min (range.high - range.low) (length all - range.low) = ap length (same ∙ read) ∙ length-take (range.high - range.low) _ ∙ ap (min (range.high - range.low)) (length-drop range.low all) in
        let one = min-le_left (range.high - range.low) (length all - range.low) in
        let other = min-le_right (range.high - range.low) (length all - range.low) in
        let most : length all ≤ max_length = bounded.1 in
        le-min (omega arith) (omega arith)

-- a name is short
name_short : (name : List ℕ) → IsName name → length name ≤ max_name
name_short name is =
    let parts = and_parts (is_name_length (length name) && is_letter (slice_index name 0)) (list_all is_name_byte name) is in
    let long = and_parts (is_name_length (length name)) (is_letter (slice_index name 0)) parts.0 in
    leb-true (length name) max_name (and_parts (nat_lt 0 (length name)) (nat_le (length name) max_name) long.0).1

-- an answer and its number fit so much room
abbrev pub Fits : ℕ → Outcome → Type 0
Fits room o = 8 + length (bytes_of_outcome o) ≤ room

by_result : {A : Type 0} (make : A → Outcome) (room : ℕ) (result : Result A PoolError) (o : Outcome) → least_room ≤ room → IfOk result (λ x. Fits room (make x)) → o ≡ outcome_of make result → Fits room o
by_result make room (Ok x) o least fits is = subst (Fits room) (sym is) fits
by_result make room (Err e) o least fits is = subst (Fits room) (sym is) (let size : length (bytes_of_outcome (outcome.Refused e)) ≡ 18 = refl in omega (arith, size))

all_fit : {A : Type 0} {P : A → Type 0} (result : Result A PoolError) → ((x : A) → P x) → IfOk result P
all_fit (Ok x) p = p x
all_fit (Err e) p = tt

-- each answer fits the room of its request
abbrev AllFit : List Request → List Answer → Type 0
AllFit [] [] = Unit {0}
AllFit (r ∷ rs) (a ∷ answers) = Fits (room_of_call r.call) a.outcome × AllFit rs answers
AllFit [] (a ∷ answers) = ⊥
AllFit (r ∷ rs) [] = ⊥

least_of : (c : Call) → least_room ≤ room_of_call c
least_of (call.Transact r) = omega arith
least_of (call.TransactDurably r) = omega arith
least_of (call.Read object range) = omega arith
least_of (call.Length object) = omega arith
least_of (call.Objects first past) = omega arith
least_of call.Status = omega arith
least_of (call.Durable receipt) = omega arith
least_of call.Flush = omega arith
least_of call.Sync = omega arith
least_of call.Name = omega arith

all_bytes_fit : (rs : List Request) (answers : List Answer) → AllFit rs answers → length (flat_map bytes_of_answer answers) ≤ sum_by (λ (r : Request). room_of_call r.call) rs
all_bytes_fit [] [] fit = omega arith
all_bytes_fit (r ∷ rs) (a ∷ answers) fit =
    let others = all_bytes_fit rs answers fit.1 in
    let one : 8 + length (bytes_of_outcome a.outcome) ≤ room_of_call r.call = fit.0 in
    let sum : sum_by (λ (r : Request). room_of_call r.call) (r ∷ rs) ≡ room_of_call r.call + sum_by (λ (r : Request). room_of_call r.call) rs = sum_by-cons (λ (r : Request). room_of_call r.call) r rs in
    omega (arith, others, one, sum, length-append (bytes_of_outcome a.outcome) (flat_map bytes_of_answer answers))
all_bytes_fit [] (a ∷ answers) fit = absurd fit
all_bytes_fit (r ∷ rs) [] fit = absurd fit

module _ {Dev : Type 0} {G : Ghosts Dev} (keeps : IsTrue G.keeps_model) where
  fetched_short : (owner : Owner) (n : ObjectId) (range : Range) (bytes : List ℕ) (old new : Handle Dev G) → Fetches owner n range (Ok bytes) old new → length bytes ≤ min (range.high - range.low) max_length
  fetched_short owner n range bytes old new u =
      let t = u.made.made in
      ∥∥₁_elim t.reads.explained le_prop (λ x.
      ∥∥₁_elim (t.reads.over keeps) le_prop (λ one. read_short owner n range bytes (bytes_of t.locked.disk.now) (viewed_state t.locked) (viewed_state t.read) x one))

  fetched_fits : (owner : Owner) (n : ObjectId) (range : Range) (result : Result (List ℕ) PoolError) (old new : Handle Dev G) → Fetches owner n range result old new → IfOk result (λ bytes. Fits (room_of_call (call.Read n range)) (outcome.Bytes bytes))
  fetched_fits owner n range (Ok bytes) old new t =
      let short = fetched_short owner n range bytes old new t in
      let size : length (bytes_of_outcome (outcome.Bytes bytes)) ≡ 5 + length bytes = omega arith in
      omega (arith, short, size)
  fetched_fits owner n range (Err e) old new t = tt

  listed_fits : (first past : ObjectId) (result : Result (List Listed) PoolError) (old new : Handle Dev G) → ListsObjects first.0 past.0 result old new → IfOk result (λ listed. Fits (room_of_call (call.Objects first past)) (outcome.Objects listed))
  listed_fits first past (Ok listed) old new l =
      let some : length listed ≤ min (past.0 - first.0) object_count = room_below (state_seen new).shown.contents past.0 first.0 listed l.objects in
      let size : length (bytes_of_outcome (outcome.Objects listed)) ≡ 5 + length (flat_map bytes_of_listed listed) = omega arith in
      omega (arith, some, size, length-listed listed)
  listed_fits first past (Err e) old new l = tt

  name_fits : (name : List ℕ) (old new : Handle Dev G) → Makes step.Name (reply.Name name) old new → Fits least_room (outcome.Name name)
  name_fits name old new m =
      let made = m.made.made in
      ∥∥₁_elim made.explained le_prop (λ x.
      ∥∥₁_elim made.step le_prop (λ one. told one x.exact.bounded.name))
    where
      told : {s t : State} → Step ⊥ [] step.Name (reply.Name name) s t → IsName s.shown.contents.name → Fits least_room (outcome.Name name)
      told {s} {t} (Ok other, is, h) named =
          let same : name ≡ s.shown.contents.name = (let given : name ≡ other = cc in given ∙ h.0) in
          let short : length name ≤ max_name = name_short name (subst IsName (sym same) named) in
          let size : length (bytes_of_outcome (outcome.Name name)) ≡ 5 + length name = omega arith in
          omega (arith, short, size)
      told (Err e, is, h) named = absurd h

  call_fits : (owner : Owner) (c : Call) (o : Outcome) (old new : Handle Dev G) → MakesCall owner c o old new → Fits (room_of_call c) o
  call_fits owner (call.Transact r) o old new (result, made, is) = by_result outcome.Transacted least_room result o (omega arith) (all_fit result (λ x. let size : length (bytes_of_outcome (outcome.Transacted x)) ≡ 17 = refl in omega (arith, size))) is
  call_fits owner (call.TransactDurably r) o old new (result, made, is) = by_result outcome.MadeDurable least_room result o (omega arith) (all_fit result (λ x. let size : length (bytes_of_outcome (outcome.MadeDurable x)) ≡ 17 = refl in omega (arith, size))) is
  call_fits owner (call.Read object range) o old new (result, made, is) = by_result outcome.Bytes (room_of_call (call.Read object range)) result o (omega arith) (fetched_fits owner object range result old new made) is
  call_fits owner (call.Length object) o old new (result, made, is) = by_result outcome.Length least_room result o (omega arith) (all_fit result (λ x. let size : length (bytes_of_outcome (outcome.Length x)) ≡ 9 = refl in omega (arith, size))) is
  call_fits owner (call.Objects first past) o old new (result, made, is) = by_result outcome.Objects (room_of_call (call.Objects first past)) result o (omega arith) (listed_fits first past result old new made) is
  call_fits owner call.Status o old new (status, made, is) = subst (Fits least_room) (sym is) (let size : length (bytes_of_outcome (outcome.Status status)) ≡ 57 = refl in omega (arith, size))
  call_fits owner (call.Durable receipt) o old new (durable, made, is) = subst (Fits least_room) (sym is) (let size : length (bytes_of_outcome (outcome.Durable durable)) ≡ 2 = refl in omega (arith, size))
  call_fits owner call.Flush o old new (result, made, is) = by_result (λ _. outcome.Flushed) least_room result o (omega arith) (all_fit result (λ x. let size : length (bytes_of_outcome outcome.Flushed) ≡ 1 = refl in omega (arith, size))) is
  call_fits owner call.Sync o old new (result, made, is) = by_result outcome.Synced least_room result o (omega arith) (all_fit result (λ x. let size : length (bytes_of_outcome (outcome.Synced x)) ≡ 9 = refl in omega (arith, size))) is
  call_fits owner call.Name o old new (name, made, is) = subst (Fits least_room) (sym is) (name_fits name old new made)

  calls_fit : (owner : Owner) (rs : List Request) (answers : List Answer) (old new : Handle Dev G) → MakesCalls owner rs answers old new → AllFit rs answers
  calls_fit owner [] [] old new same = tt
  calls_fit owner (r ∷ rs) (a ∷ answers) old new (next, numbered, made, rest) = (call_fits owner r.call a.outcome old next made, calls_fit owner rs answers next new rest)
  calls_fit owner [] (a ∷ answers) old new h = absurd h
  calls_fit owner (r ∷ rs) [] old new h = absurd h

  asked_fits : (c : Call) (e : PoolError) (m a : Answer) (old new : Handle Dev G) → Asks e m a old new → Fits (room_of_call c) m.outcome → Fits (room_of_call c) a.outcome
  asked_fits c e m a old new (inl (none, same, still)) fits = subst (λ (x : Answer). Fits (room_of_call c) x.outcome) (sym same) fits
  asked_fits c e m a old new (inr (receipt, is, inl (same, made))) fits = subst (λ (x : Answer). Fits (room_of_call c) x.outcome) (sym same) fits
  asked_fits c e m a old new (inr (receipt, is, inr (other, made))) fits =
      subst (λ (x : Answer). Fits (room_of_call c) x.outcome) (sym other)
      (let least = least_of c in let size : length (bytes_of_outcome (outcome.NotDurable receipt e)) ≡ 34 = refl in omega (arith, least, size))

  all_asked_fit : (e : PoolError) (rs : List Request) (ms answers : List Answer) (old new : Handle Dev G) → AsksAll e ms answers old new → AllFit rs ms → AllFit rs answers
  all_asked_fit e [] [] [] old new same fit = tt
  all_asked_fit e (r ∷ rs) (m ∷ ms) (a ∷ answers) old new (next, asked, rest) fit = (asked_fits r.call e m a old next asked fit.0, all_asked_fit e rs ms answers next new rest fit.1)
  all_asked_fit e rs [] (a ∷ answers) old new h fit = absurd h
  all_asked_fit e rs (m ∷ ms) [] old new h fit = absurd h
  all_asked_fit e [] (m ∷ ms) (a ∷ answers) old new h fit = absurd fit
  all_asked_fit e (r ∷ rs) [] [] old new h fit = absurd fit

  durable_fit : (rs : List Request) (made answers : List Answer) (old new : Handle Dev G) → MakesDurable made answers old new → AllFit rs made → AllFit rs answers
  durable_fit rs made answers old new (inl (none, same, still)) fit = subst (AllFit rs) (sym same) fit
  durable_fit rs made answers old new (inr (awaits, inl (same, flushes))) fit = subst (AllFit rs) (sym same) fit
  durable_fit rs made answers old new (inr (awaits, inr (e, flushed, refused, asked))) fit = all_asked_fit e rs made answers flushed new asked fit

  pub answers_fit : (owner : Owner) (rs : List Request) (made answers : List Answer) (old middle new : Handle Dev G) → MakesCalls owner rs made old middle → MakesDurable made answers middle new → size_of_answers answers ≤ room_of_answers rs
  answers_fit owner rs made answers old middle new makes flushes =
      let all = all_bytes_fit rs answers (durable_fit rs made answers middle new flushes (calls_fit owner rs made old middle makes)) in
      omega (arith, all)
