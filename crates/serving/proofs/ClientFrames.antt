-- What a frame's contract says of the frames that clients speak of.
use Rattle.std.proofs.Common.{◌≡◌, ◌≤◌, ◌<◌, ◌+◌, ◌⊎◌, ◌++◌, ◌∷◌, [], ℕ, List, arith, inl, inr, length, length-append, refl, sym, ap, subst, ◌∙◌}
use Rattle.std.specs.Prelude.{All, IfErr, IfSome, IsSome, None, OnErr, OnOk, Option, Result, Ok, Err, Some}
use Rattle.std.proofs.Transfers.{starts_with_length}
use Rattle.std.proofs.lemmas.Bool.{false≢true}
use Rattle.std.proofs.lemmas.List.Elements.{All-cons, All-nil}
use Rattle.base.specs.declared.error.PoolError.{PoolError}
use Rattle.base.specs.declared.names.Group.{Group}
use Rattle.base.specs.declared.names.Owner.{Owner}
use Rattle.base.specs.declared.names.Receipt.{Receipt}
use Rattle.device_model.specs.declared.device.SectorDevice.{Ghosts}
use Rattle.frames.specs.Answers.{bytes_of_answers, bytes_of_refused}
use Rattle.frames.specs.Laws.{FramesAgree}
use Rattle.frames.specs.Requests.{IsFrameOf}
use Rattle.frames.specs.declared.answer.Answer.{Answer}
use Rattle.frames.specs.declared.answer.Outcome.{Outcome}
use Rattle.frames.specs.declared.answer.Outcome.TheVariants as outcome
use Rattle.frames.specs.declared.error.FrameError.{FrameError}
use Rattle.frames.specs.declared.request.Call.TheVariants as call
use Rattle.frames.specs.declared.request.Request.{Request}
use Rattle.pool_threads.specs.declared.handle.Handle.{Handle}
use Rattle.pool_threads.specs.Answers.{Sees}
use Rattle.pool_threads.specs.Transacts.{TransactsOrLacks}
use Rattle.pool_threads.specs.Waits.{LeavesDurable, SyncsPool}
use Rattle.records.specs.declared.record.Record.{Record}
use Rattle.durable_answers.specs.Durability.{AwaitsFlush, AwaitsNoFlush, MakesDurable, durable_receipt}
use Rattle.serving.specs.Calls.{MakesCalls, outcome_of}
use Rattle.serving.specs.Frames.{AnswersFrame, RefusesFrame}
use Rattle.serving.specs.Inputs.{AnswersFrames, BeginsWithFrames, Exchange, IsLengthAlone, IsWhole, ServesFrames, frames_of}
use Rattle.serving.proofs.Durable.{never}

module _ {Dev : Type 0} {G : Ghosts Dev} (owner : Owner) (bytes answer : List ℕ) (old new : Handle Dev G) where
  -- bytes that no requests are spelled by are refused
  pub malformed : ((rs : List Request) → IsFrameOf bytes rs → ⊥) → AnswersFrame owner bytes answer old new → RefusesFrame bytes answer old new
  malformed none (inl refused) = refused
  malformed none (inr a) = absurd (none a.requests a.spelled)

  -- the answer is a refusal, or answers of which those that say so are durable
  pub durable_answers : AnswersFrame owner bytes answer old new → ((e : FrameError) × (answer ≡ bytes_of_refused e))
      ⊎ ((answers : List Answer) × (answer ≡ bytes_of_answers answers) × All (λ (a : Answer). IfSome (durable_receipt a.outcome) (λ r. Sees (LeavesDurable r) old new)) answers)
  durable_answers (inl refused) = inl (refused.error, refused.answer_is)
  durable_answers (inr a) = inr (a.answers, a.answer_is, a.makes.durable)

-- an answer that awaits no flush
abbrev IsQuiet : Answer → Type 0
IsQuiet a = durable_receipt a.outcome ≡ None

-- none among these awaits one
no_flush : (answers : List Answer) → AwaitsNoFlush answers → AwaitsFlush answers → ⊥
no_flush answers none (a, (k, below, is), some) = never_some (durable_receipt a.outcome) (subst (λ (x : Answer). durable_receipt x.outcome ≡ None) is (none k a below)) some
  where
    never_some : (o : Option Receipt) → o ≡ None → IsSome o → ⊥
    never_some None is some = absurd (false≢true some)
    never_some (Some r) is some = absurd (let no_way : Some r ≡ None = is in cc)

-- two transactions, as the requests of a frame, and what they are answered
abbrev both : Record → Record → List Request
both a b = record { number = 1; call = call.Transact a } ∷ record { number = 2; call = call.Transact b } ∷ []

abbrev answers_to_both : Result Receipt PoolError → Result Receipt PoolError → List Answer
answers_to_both first second = record { number = 1; outcome = outcome_of outcome.Transacted first } ∷ record { number = 2; outcome = outcome_of outcome.Transacted second } ∷ []

same_answer : (x : Answer) (n : ℕ) (o : Outcome) → x.number ≡ n → x.outcome ≡ o → x ≡ record { number = n; outcome = o }
same_answer x n o is so = ap (λ (m : ℕ). record { number = m; outcome = x.outcome }) is ∙ ap (λ (y : Outcome). record { number = n; outcome = y }) so

module _ {Dev : Type 0} {G : Ghosts Dev} (owner : Owner) (a b : Record) where
  -- both transactions were made, in order, and these are the answers
  pub record MakesBoth (answers : List Answer) (old new : Handle Dev G) : Type 0 where
    pub first : Result Receipt PoolError
    pub second : Result Receipt PoolError
    pub next : Handle Dev G
    pub one : TransactsOrLacks owner a.ops first old next
    pub other : TransactsOrLacks owner b.ops second next new
    pub answers_are : answers ≡ answers_to_both first second

  made_both : (made answers : List Answer) (old middle new : Handle Dev G) → MakesCalls owner (both a b) made old middle → MakesDurable made answers middle new → MakesBoth answers old new
  made_both (x ∷ y ∷ []) answers old middle new (next, number_x, (first, one, is_x), (last, number_y, (second, other, is_y), end)) flushes = by flushes
    where
      none : AwaitsNoFlush (x ∷ y ∷ [])
      none = All-cons IsQuiet x (y ∷ []) (never outcome.Transacted (λ r. refl) first x.outcome is_x) (All-cons IsQuiet y [] (never outcome.Transacted (λ r. refl) second y.outcome is_y) (All-nil IsQuiet))

      by : MakesDurable (x ∷ y ∷ []) answers middle new → MakesBoth answers old new
      by (inl (quiet, same, still)) = record {
        first = first;
        second = second;
        next = next;
        one = one;
        other = subst (λ (h : Handle Dev G). TransactsOrLacks owner b.ops second next h) (sym (still ∙ end)) other;
        answers_are = same ∙ ap (λ (z : Answer). z ∷ y ∷ []) (same_answer x 1 (outcome_of outcome.Transacted first) number_x is_x)
            ∙ ap (λ (z : Answer). record { number = 1; outcome = outcome_of outcome.Transacted first } ∷ z ∷ []) (same_answer y 2 (outcome_of outcome.Transacted second) number_y is_y);
      }
      by (inr (awaits, flushed)) = absurd (no_flush (x ∷ y ∷ []) none awaits)
  made_both [] answers old middle new h flushes = absurd h
  made_both (x ∷ []) answers old middle new (next, number, made, h) flushes = absurd h
  made_both (x ∷ y ∷ z ∷ more) answers old middle new (next, number, made, (last, numbered, other, h)) flushes = absurd h

  pub both_in_order : FramesAgree → (bytes answer : List ℕ) (old new : Handle Dev G) → IsFrameOf bytes (both a b) → AnswersFrame owner bytes answer old new
      → (new ≡ old) ⊎ ((answers : List Answer) × MakesBoth answers old new × (answer ≡ bytes_of_answers answers))
  both_in_order agree bytes answer old new spelled (inl refused) = inl refused.unchanged
  both_in_order agree bytes answer old new spelled (inr x) =
      let same : x.requests ≡ both a b = agree bytes x.requests (both a b) x.spelled spelled in
      let makes : MakesCalls owner (both a b) x.makes.made old x.makes.middle = subst (λ (rs : List Request). MakesCalls owner rs x.makes.made old x.makes.middle) same x.makes.makes in
      inr (x.answers, made_both x.makes.made x.answers old x.makes.middle new makes x.makes.flushes, x.answer_is)

-- what follows of what a call appended, if it returned Ok
pub ok_with : {A E P Q : Type 0} (result : Result A E) → OnOk result P → (P → Q) → OnOk result Q
ok_with (Ok x) p q = q p
ok_with (Err e) p q = tt

-- what is so after an error
pub err_with : {A E : Type 0} (P : E → Type 0) (Q : Type 0) (result : Result A E) → IfErr result (λ e. P e × Q) → OnErr result Q
err_with P Q (Ok x) p = tt
err_with P Q (Err e) p = p.1

-- the refusal or the answers are what was appended
pub appended : (out new answer : List ℕ) (P : List Answer → Type 0) → ((e : FrameError) × (answer ≡ bytes_of_refused e)) ⊎ ((answers : List Answer) × (answer ≡ bytes_of_answers answers) × P answers)
    → new ≡ out ++ answer → ((e : FrameError) × (new ≡ out ++ bytes_of_refused e)) ⊎ ((answers : List Answer) × (new ≡ out ++ bytes_of_answers answers) × P answers)
appended out new answer P (inl (e, is)) added = inl (e, added ∙ ap (λ (l : List ℕ). out ++ l) is)
appended out new answer P (inr (answers, is, p)) added = inr (answers, added ∙ ap (λ (l : List ℕ). out ++ l) is, p)

module _ {Dev : Type 0} {G : Ghosts Dev} (owner : Owner) (a b : Record) (agree : FramesAgree) where
  pub both_answered : {A E : Type 0} (bytes out new_out answer : List ℕ) (old new : Handle Dev G) (result : Result A E) → IsFrameOf bytes (both a b) → AnswersFrame owner bytes answer old new
      → OnOk result (new_out ≡ out ++ answer)
      → (new ≡ old) ⊎ ((first second : Result Receipt PoolError) × (next : Handle Dev G) × TransactsOrLacks owner a.ops first old next × TransactsOrLacks owner b.ops second next new
      × OnOk result (new_out ≡ out ++ bytes_of_answers (answers_to_both first second)))
  both_answered bytes out new_out answer old new result spelled answered added = by (both_in_order owner a b agree bytes answer old new spelled answered)
    where
      by : (new ≡ old) ⊎ ((answers : List Answer) × MakesBoth owner a b answers old new × (answer ≡ bytes_of_answers answers))
          → (new ≡ old) ⊎ ((first second : Result Receipt PoolError) × (next : Handle Dev G) × TransactsOrLacks owner a.ops first old next × TransactsOrLacks owner b.ops second next new
          × OnOk result (new_out ≡ out ++ bytes_of_answers (answers_to_both first second)))
      by (inl same) = inl same
      by (inr (answers, m, is)) = inr (m.first, m.second, m.next, m.one, m.other, ok_with result added (λ e. e ∙ ap (λ (l : List ℕ). out ++ l) (is ∙ ap bytes_of_answers m.answers_are)))

-- frames, and maybe a length, that have fewer than four bytes are none
short_none : (good last : List Exchange) → All (λ (x : Exchange). IsWhole x.frame) good → IsLengthAlone last → length (frames_of (good ++ last)) < 4 → good ++ last ≡ []
short_none [] [] whole alone short = refl
short_none [] (x ∷ []) whole alone short =
    let few : length (x.frame ++ []) < 4 = short in
    let size : length (x.frame ++ []) ≡ length x.frame + 0 = length-append x.frame [] in
    let four : length x.frame ≡ 4 = alone.four in
    absurd (omega (arith, few, size, four))
short_none [] (x ∷ y ∷ more) whole alone short = absurd alone
short_none (x ∷ good) last whole alone short =
    let head : IsWhole x.frame = whole 0 x (omega arith) in
    let least : 12 ≤ length x.frame = head.least in
    let few : length (x.frame ++ frames_of (good ++ last)) < 4 = short in
    let size : length (x.frame ++ frames_of (good ++ last)) ≡ length x.frame + length (frames_of (good ++ last)) = length-append x.frame (frames_of (good ++ last)) in
    absurd (omega (arith, few, size, least))

pub none_among : (bytes : List ℕ) (xs : List Exchange) → length bytes < 4 → BeginsWithFrames xs (Some bytes) → xs ≡ []
none_among bytes xs short b =
    let fits : length (frames_of xs) ≤ length bytes = starts_with_length bytes (frames_of xs) b.begins in
    let few : length (frames_of xs) < 4 = omega (arith, fits, short) in
    b.parts ∙ short_none b.good b.last b.whole b.alone (subst (λ (l : List Exchange). length (frames_of l) < 4) b.parts few)

-- an input of fewer bytes than a length has no frame, so a serve of it only syncs
pub only_synced : {Dev : Type 0} {G : Ghosts Dev} (owner : Owner) (bytes : List ℕ) (xs : List Exchange) (synced : Result Group PoolError) (old new : Handle Dev G) → length bytes < 4 → BeginsWithFrames xs (Some bytes)
    → ServesFrames owner xs synced old new → SyncsPool synced old new
only_synced {Dev} {G} owner bytes xs synced old new short begins s =
    let same : s.served ≡ old = subst (λ (l : List Exchange). AnswersFrames owner l old s.served) (none_among bytes xs short begins) s.answers in
    subst (λ (h : Handle Dev G). SyncsPool synced h new) same s.syncs
