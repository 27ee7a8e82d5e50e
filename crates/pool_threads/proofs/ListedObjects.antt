-- The objects from a number on: the one at that number, if it is there, and then those from the next number on.
use Rattle.std.proofs.Common.{◌≡◌, ◌≢◌, ◌∙◌, ◌<◌, ◌≤◌, ◌+◌, ◌-◌, ◌++◌, ◌∷◌, ℕ, suc, [], List, append_assoc, ap, arith, length, refl, subst, sym}
use Rattle.std.specs.Prelude.{Bool, Err, None, Ok, Option, Result, Some, false, is_none, nat_le, take, true}
use Rattle.std.specs.List.{range_with_len}
use Rattle.std.proofs.lemmas.Bool.{leb-false, leb-true}
use Rattle.std.proofs.lemmas.List.{length-append}
use Rattle.base.specs.declared.error.PoolError.{PoolError}
use Rattle.base.specs.declared.error.PoolError.TheVariants as error
use Rattle.base.specs.declared.names.ObjectId.{ObjectId}
use Rattle.base.specs.formats.Limits.{object_count}
use Rattle.base.specs.history.Contents.{Contents, length_of}
use Rattle.base.specs.steps.Refusals.{first_refusal, refused_if}
use Rattle.base.specs.steps.Shown.{Shown}
use Rattle.base.specs.steps.Steps.{Answers, Never, State}
use Rattle.pool_tables.specs.StepAnswers.{TellsLength}
use Rattle.pool_threads.specs.Objects.{object_at, objects_among, objects_from}
use Rattle.pool_threads.specs.Views.{blank_view}

pub below_most : (n m k : ℕ) → k ≡ n → n ≤ m → k ≢ m → n < m
below_most n m k same few other = go (nat_le m n) refl
  where
    go : (b : Bool) → nat_le m n ≡ b → n < m
    go true is = let past : m ≤ n = leb-true m n is in let equal : n ≡ m = omega arith in absurd (other (same ∙ equal))
    go false is = leb-false m n is

-- what is listed at a number
next_object : (n : ℕ) (c : Contents) → n < object_count → objects_from n c ≡ object_at n (length_of c n) ++ objects_from (n + 1) c
next_object n c low =
    let same : object_count - n ≡ suc (object_count - (n + 1)) = omega arith in
    ap (λ k. objects_among c (range_with_len n k)) same

-- So far these are listed, and then the rest of the first ones.
abbrev pub IsListedTo : ℕ → ℕ → Contents → List (ObjectId × ℕ) → ℕ → Type 0
IsListedTo from most c list n = take most (objects_from from c) ≡ list ++ take (most - length list) (objects_from n c)

pub listed_absent : (from most : ℕ) (c : Contents) (list : List (ObjectId × ℕ)) (n : ℕ) → n < object_count → length_of c n ≡ None → IsListedTo from most c list n → IsListedTo from most c list (n + 1)
listed_absent from most c list n low absent so_far =
    so_far ∙ ap (λ os. list ++ take (most - length list) os) (next_object n c low ∙ ap (λ o. object_at n o ++ objects_from (n + 1) c) absent)

pub listed_present : (from most : ℕ) (c : Contents) (list : List (ObjectId × ℕ)) (n size : ℕ) → n < object_count → length list < most → length_of c n ≡ Some size → IsListedTo from most c list n
    → IsListedTo from most c (list ++ (record { 0 = n }, size) ∷ []) (n + 1)
listed_present from most c list n size low room present so_far =
    let one : ObjectId × ℕ = (record { 0 = n }, size) in
    let left : most - length list ≡ suc (most - suc (length list)) = omega arith in
    let longer : length (list ++ one ∷ []) ≡ suc (length list) = length-append list (one ∷ []) ∙ (let more : length list + 1 ≡ suc (length list) = omega arith in more) in
    so_far
    ∙ ap (λ os. list ++ take (most - length list) os) (next_object n c low ∙ ap (λ o. object_at n o ++ objects_from (n + 1) c) present)
    ∙ ap (λ k. list ++ take k (one ∷ objects_from (n + 1) c)) left
    ∙ sym (append_assoc list (one ∷ []) (take (most - suc (length list)) (objects_from (n + 1) c)))
    ∙ ap (λ k. (list ++ one ∷ []) ++ take (most - k) (objects_from (n + 1) c)) (sym longer)

-- what the answer of a length says of a pool
abbrev pub value_of : Result ℕ PoolError → Option ℕ
value_of (Ok a) = Some a
value_of (Err e) = None

abbrev Tells : Bool → Bool → Option ℕ → Result ℕ PoolError → State → State → Type 0
Tells suspended outside found answer old new =
    Answers (first_refusal (refused_if suspended error.Suspended ∷ refused_if outside error.BadRange ∷ refused_if (is_none found) error.NoObject ∷ [])) answer old new
    (λ size. (found ≡ Some size) × (new ≡ old)) Never

found_by : (suspended outside : Bool) (found : Option ℕ) (answer : Result ℕ PoolError) (old new : State) → suspended ≡ false → outside ≡ false → Tells suspended outside found answer old new → found ≡ value_of answer
found_by true outside found answer old new running inside h = absurd (let no_way : true ≡ false = running in cc)
found_by false true found answer old new running inside h = absurd (let no_way : true ≡ false = inside in cc)
found_by false false (Some x) (Ok size) old new running inside h = h.0
found_by false false (Some x) (Err e) old new running inside h = absurd h
found_by false false None (Ok size) old new running inside h = absurd (let no_way : Ok size ≡ Err error.NoObject = h.0 in cc)
found_by false false None (Err e) old new running inside h = refl

suspended_by : (suspended outside : Bool) (found : Option ℕ) (e : PoolError) (old new : State) → e ≡ error.Suspended → Tells suspended outside found (Err e) old new → suspended ≡ true
suspended_by true outside found e old new is h = refl
suspended_by false true found e old new is h = absurd (let other : Err e ≡ Err error.BadRange = h.0 in cc)
suspended_by false false None e old new is h = absurd (let other : Err e ≡ Err error.NoObject = h.0 in cc)
suspended_by false false (Some x) e old new is h = absurd h

running_by : (suspended outside : Bool) (found : Option ℕ) (answer : Result ℕ PoolError) (old new : State) → (answer ≡ Err error.Suspended → ⊥) → Tells suspended outside found answer old new → suspended ≡ false
running_by false outside found answer old new other h = refl
running_by true outside found (Ok size) old new other h = absurd (other h.0)
running_by true outside found (Err e) old new other h = absurd (other h.0)

module _ (n : ObjectId) (answer : Result ℕ PoolError) (s : Shown) (told : TellsLength n answer s) where
  abbrev before : State
  before = record { shown = s; past = blank_view.past }

  abbrev after : State
  after = record { shown = s; past = (told blank_view.past).0 }

  -- whether the object is there, and its length
  pub length_told : n.0 < object_count → s.suspended ≡ false → length_of s.contents n.0 ≡ value_of answer
  length_told low running = found_by s.suspended (nat_le object_count n.0) (length_of s.contents n.0) answer before after running (below (nat_le object_count n.0) refl) (told blank_view.past).1
    where
      below : (b : Bool) → nat_le object_count n.0 ≡ b → b ≡ false
      below false is = refl
      below true is = absurd (let past : object_count ≤ n.0 = leb-true object_count n.0 is in omega arith)

  -- whether the pool is suspended
  pub suspended_told : (e : PoolError) → answer ≡ Err e → e ≡ error.Suspended → s.suspended ≡ true
  suspended_told e is same = suspended_by s.suspended (nat_le object_count n.0) (length_of s.contents n.0) e before after same
      (subst (λ a. Tells s.suspended (nat_le object_count n.0) (length_of s.contents n.0) a before after) is (told blank_view.past).1)

  pub running_told : (answer ≡ Err error.Suspended → ⊥) → s.suspended ≡ false
  running_told other = running_by s.suspended (nat_le object_count n.0) (length_of s.contents n.0) answer before after other (told blank_view.past).1
