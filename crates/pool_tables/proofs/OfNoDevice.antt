-- Steps that make no device call are refused by none.
use Rattle.std.proofs.Common.{◌≡◌, ℕ, Bool, true, false, List, [], ◌∷◌, ◌++◌, refl, ap, sym, ◌∙◌}
use Rattle.std.specs.Prelude.{Option, Some, None, Result, Ok, Err}
use Rattle.std.specs.FinMap as finite
use Rattle.std.specs.List.{list_all}
use Rattle.std.proofs.lemmas.Bool.{and_parts, false≢true}
use Rattle.base.specs.declared.error.PoolError.{PoolError}
use Rattle.base.specs.declared.error.PoolError.TheVariants as error
use Rattle.base.specs.declared.operation.Op.{Op}
use Rattle.base.specs.declared.operation.Op.TheVariants as op
use Rattle.base.specs.declared.operation.Shape.{Shape}
use Rattle.base.specs.declared.range.Mode.{Mode}
use Rattle.base.specs.declared.refused.RefusedCalls.{RefusedCalls}
use Rattle.base.specs.disk.Calls.{with_refusal}
use Rattle.base.specs.history.Contents.{Contents, apply, created, removed, changed, with_object, bytes_after_write, resize}
use Rattle.base.specs.history.History.{apply_all}
use Rattle.base.specs.history.Past.{Past, new_past}
use Rattle.base.specs.history.Plans.{NumberRange}
use Rattle.base.specs.steps.Refusals.{Test, first_refusal, abort_tests, append_tests, begin_tests, length_tests, ops_tests, lock_tests, unlock_tests, commit_tests, close_tests, quiesce_tests, commit_refusal}
use Rattle.base.specs.history.Sequences.{and_then, in_turn}
use Rattle.base.specs.steps.Shown.{Shown}
use Rattle.base.specs.steps.Steps as steps
use Rattle.base.specs.steps.Steps.{State, Answers}
use Rattle.pool_tables.specs.Meets.{Meets}
use Rattle.pool_tables.specs.KeptTrees.{IsOfNoDevice}
use Rattle.pool_tables.specs.Tables.{result_map}

-- whether this is no refusal of a device
abbrev is_own : PoolError → Bool
is_own error.Read = false
is_own error.Write = false
is_own error.Flush = false
is_own _ = true

abbrev is_own_answer : {A : Type 0} → Result A PoolError → Bool
is_own_answer (Ok a) = true
is_own_answer (Err e) = is_own e

-- then nothing is counted
counts_none : (e : PoolError) (calls : RefusedCalls) → is_own e ≡ true → with_refusal e calls ≡ calls
counts_none error.Read calls own = absurd (false≢true own)
counts_none error.Write calls own = absurd (false≢true own)
counts_none error.Flush calls own = absurd (false≢true own)
counts_none _ calls own = refl

-- the first refusal of tests of which none has one of a device
first_own : (ts : List Test) (r : Option PoolError) → list_all (λ (t : Test). is_own t.error) ts ≡ true → first_refusal ts ≡ r → (e : PoolError) → r ≡ Some e → is_own e ≡ true
first_own [] r own is e some = absurd (let no_way : None ≡ Some e = is ∙ some in cc)
first_own (t ∷ ts) r own is e some =
    let both = and_parts (is_own t.error) (list_all (λ (t : Test). is_own t.error) ts) own in
    go t.applies is (λ h. first_own ts r both.1 h e some)
  where
    go : (b : Bool) → first_refusal (record { applies = b; error = t.error } ∷ ts) ≡ r → (first_refusal ts ≡ r → is_own e ≡ true) → is_own e ≡ true
    go true h rest = let same : t.error ≡ e = let told : Some t.error ≡ Some e = h ∙ some in cc in sym (ap is_own same) ∙ (and_parts (is_own t.error) (list_all (λ (t : Test). is_own t.error) ts) own).0
    go false h rest = rest h

-- an answer by tests of which none has one, where the step's own refusals are none either
own_answer : {A : Type 0} (ts : List Test) (r : Option PoolError) (answer : Result A PoolError) (old new : State) (does : A → Type 0) (own : PoolError → Type 0)
    → list_all (λ (t : Test). is_own t.error) ts ≡ true → first_refusal ts ≡ r → ((e : PoolError) → own e → is_own e ≡ true) → Answers r answer old new does own → is_own_answer answer ≡ true
own_answer ts (Some e) answer old new does own all is owned h = rw (h.0) (first_own ts (Some e) all is e refl)
own_answer ts None (Ok a) old new does own all is owned h = refl
own_answer ts None (Err e) old new does own all is owned h = owned e h

wants_memory : (e : PoolError) → e ≡ error.NoMemory → is_own e ≡ true
wants_memory e is = ap is_own is

-- nor is a refusal of an operation
apply_own : (o : Op) (c : Contents) → is_own_answer (apply o c) ≡ true
apply_own (op.Create n) c = elim (finite.get c.objects n.0) as (λ o. is_own_answer (and_then (created o) (λ x. Ok (with_object c n.0 x))) ≡ true) [ None ↦ refl | Some old ↦ refl ]
apply_own (op.Remove n) c = elim (finite.get c.objects n.0) as (λ o. is_own_answer (and_then (removed o) (λ x. Ok (with_object c n.0 x))) ≡ true) [ None ↦ refl | Some old ↦ refl ]
apply_own (op.Write n offset bytes) c =
    elim (finite.get c.objects n.0) as (λ o. is_own_answer (and_then (changed (bytes_after_write offset bytes) o) (λ x. Ok (with_object c n.0 x))) ≡ true) [ None ↦ refl | Some old ↦ refl ]
apply_own (op.SetLength n size) c =
    elim (finite.get c.objects n.0) as (λ o. is_own_answer (and_then (changed (resize size) o) (λ x. Ok (with_object c n.0 x))) ≡ true) [ None ↦ refl | Some old ↦ refl ]
apply_own (op.SetName bytes) c = refl

ops_own : (ops : List Op) (c : Contents) → is_own_answer (apply_all ops c) ≡ true
ops_own [] c = refl
ops_own (o ∷ ops) c = go (apply o c) (apply_own o c) (λ d. ops_own ops d)
  where
    go : (r : Result Contents PoolError) → is_own_answer r ≡ true → ((d : Contents) → is_own_answer (apply_all ops d) ≡ true) → is_own_answer (and_then r (in_turn apply ops)) ≡ true
    go (Ok d) h rest = rest d
    go (Err e) h rest = h

ops_tests_own : (r : Result Contents PoolError) (t : Test) → is_own_answer r ≡ true → is_own t.error ≡ true → list_all (λ (t : Test). is_own t.error) (ops_tests r ++ t ∷ []) ≡ true
ops_tests_own (Ok c) t h own = rw own refl
ops_tests_own (Err e) t h own = rw (h, own) refl

-- So a commit that its tests refuse counts nothing.
pub commit_own : (tx : ℕ) (ops : List Op) (s : Shown) (e : PoolError) → commit_refusal tx ops s ≡ Some e → (calls : RefusedCalls) → with_refusal e calls ≡ calls
commit_own tx ops s e refused calls =
    counts_none e calls (first_own (commit_tests tx ops s) (Some e) (ops_tests_own (apply_all ops s.contents) _ (ops_own ops s.contents) refl) refused e refl)

pub some_past : Shown → Past
some_past s = new_past s.contents 0 s.dirty_max

-- Each of these steps on its own.
module _ (old new : Shown) where
  pub lock_own : (owner : ℕ) (range : NumberRange) (mode : Mode) (answer : Result ℕ PoolError) → Meets (steps.Lock owner range mode) answer old new → is_own_answer answer ≡ true
  lock_own owner range mode answer meets = own_answer (lock_tests owner range mode old) _ answer _ _ _ _ refl refl (λ e own. wants_memory e own.0) (meets (some_past old)).1

  pub append_own : (owner n : ℕ) (answer : Result (ℕ × ℕ × ℕ) PoolError) → Meets (steps.LockAppend owner n) answer old new → is_own_answer answer ≡ true
  append_own owner n answer meets = own_answer (append_tests owner n old) _ answer _ _ _ _ refl refl (λ e own. wants_memory e own.0) (meets (some_past old)).1

  pub unlock_own : (owner id : ℕ) (answer : Result (Unit {0}) PoolError) → Meets (steps.Unlock owner id) answer old new → is_own_answer answer ≡ true
  unlock_own owner id answer meets = own_answer (unlock_tests owner id old) _ answer _ _ _ _ refl refl (λ e own. absurd own) (meets (some_past old)).1

  pub begin_own : (owner : ℕ) (plan : List Shape) (answer : Result (ℕ × ℕ) PoolError) → Meets (steps.Begin owner plan) answer old new → is_own_answer answer ≡ true
  begin_own owner plan answer meets = own_answer (begin_tests owner plan old) _ answer _ _ _ _ refl refl (λ e own. wants_memory e own.0) (meets (some_past old)).1

  pub abort_own : (tx : ℕ) (answer : Result (Unit {0}) PoolError) → Meets (steps.Abort tx) answer old new → is_own_answer answer ≡ true
  abort_own tx answer meets = own_answer (abort_tests tx old) _ answer _ _ _ _ refl refl (λ e own. absurd own) (meets (some_past old)).1

  pub length_own : (n : ℕ) (answer : Result ℕ PoolError) → Meets (steps.Length n) answer old new → is_own_answer answer ≡ true
  length_own n answer meets = own_answer (length_tests n old) _ answer _ _ _ _ refl refl (λ e own. absurd own) (meets (some_past old)).1

  pub close_own : (answer : Result ℕ PoolError) → Meets steps.CloseGroup answer old new → is_own_answer answer ≡ true
  close_own answer meets = own_answer (close_tests old) _ answer _ _ _ _ refl refl (λ e own. absurd own) (meets (some_past old)).1

  pub quiesce_own : (answer : Result ℕ PoolError) → Meets steps.MarkQuiesced answer old new → is_own_answer answer ≡ true
  quiesce_own answer meets = own_answer (quiesce_tests old) _ answer _ _ _ _ refl refl (λ e own. absurd own) (meets (some_past old)).1

-- So it counts nothing.
pub own_counts : {A : Type 0} (answer : Result A PoolError) → is_own_answer answer ≡ true → IsOfNoDevice answer
own_counts (Ok x) own calls = refl
own_counts (Err e) own calls = counts_none e calls own

pub map_counts : {A B : Type 0} (f : A → B) (answer : Result A PoolError) → is_own_answer (result_map f answer) ≡ true → IsOfNoDevice answer
map_counts f (Ok x) own calls = refl
map_counts f (Err e) own calls = counts_none e calls own
