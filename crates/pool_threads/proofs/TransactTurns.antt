-- When a transaction is made again: never after its commit was refused.
use Rattle.std.proofs.Common.{◌≡◌, ◌∷◌, [], List, inl, inr, ap, refl, sym, ◌∙◌}
use Rattle.std.specs.Prelude.{ℕ, Bool, IfErr, None, Option, Result, Ok, Err, Some, false, not, true}
use Rattle.std.specs.FinMap as map
use Rattle.std.specs.List.{list_all}
use Rattle.std.proofs.Math.Logic.{∥∥₁_elim}
use Rattle.std.proofs.lemmas.Bool.{and_from, and_parts, false≢true, not-true}
use Rattle.std.proofs.lemmas.List.Folds.{list_all-append}
use Rattle.base.specs.declared.error.PoolError.{PoolError}
use Rattle.base.specs.declared.error.PoolError.TheVariants as error
use Rattle.base.specs.declared.names.Receipt.{Receipt}
use Rattle.base.specs.declared.names.TxId.{TxId}
use Rattle.base.specs.declared.operation.Op.{Op}
use Rattle.base.specs.declared.operation.Op.TheVariants.{Create, Remove, SetLength, SetName, Write}
use Rattle.base.specs.declared.range.ObjectRange.{ObjectRange}
use Rattle.base.specs.declared.step.Reply.TheVariants as reply
use Rattle.base.specs.history.Contents.{Contents, apply, bytes_after_write, changed, created, removed, resize, with_object}
use Rattle.base.specs.history.History.{apply_all}
use Rattle.base.specs.history.Sequences.{and_then, in_turn}
use Rattle.base.specs.steps.Refusals.{Test, commit_tests, first_refusal, ops_tests, refused_if}
use Rattle.base.specs.steps.Runs.{receipt_reply, reply_of}
use Rattle.base.specs.steps.Shown.{Shown}
use Rattle.base.specs.steps.Steps.{Answers, State, WantsMemory}
use Rattle.pool_threads.specs.Transacts.{Ends, IsRetried, IsWantOfRoom}
use Rattle.pool_threads.specs.Views.{SeenPool, viewed_state}

-- whether a transaction may be made again after a refusal
abbrev is_again : PoolError → Bool
is_again error.Busy = true
is_again error.Throttled = true
is_again error.NoSpace = true
is_again _ = false

room_again : (e : PoolError) → IsWantOfRoom e → is_again e ≡ true
room_again e (inl is) = ap is_again is
room_again e (inr is) = ap is_again is

retried_again : (ranges : List ObjectRange) (e : PoolError) → IsRetried ranges e → is_again e ≡ true
retried_again [] e want = room_again e want
retried_again (r ∷ rs) e (inl is) = ap is_again is
retried_again (r ∷ rs) e (inr want) = room_again e want

-- no operation is refused so
abbrev IsFinal : {A : Type 0} → Result A PoolError → Type 0
IsFinal (Ok a) = Unit {0}
IsFinal (Err e) = is_again e ≡ false

created_final : (o : Option (List ℕ)) → IsFinal (created o)
created_final None = tt
created_final (Some bytes) = refl

removed_final : (o : Option (List ℕ)) → IsFinal (removed o)
removed_final None = refl
removed_final (Some bytes) = tt

changed_final : (f : List ℕ → List ℕ) (o : Option (List ℕ)) → IsFinal (changed f o)
changed_final f None = refl
changed_final f (Some bytes) = tt

then_final : {A B : Type 0} (x : Result A PoolError) (f : A → Result B PoolError) → IsFinal x → ((a : A) → IsFinal (f a)) → IsFinal (and_then x f)
then_final (Ok a) f first later = later a
then_final (Err e) f first later = first

apply_final : (op : Op) (c : Contents) → IsFinal (apply op c)
apply_final (Create n) c = then_final (created (map.get c.objects n.0)) (λ o. Ok (with_object c n.0 o)) (created_final (map.get c.objects n.0)) (λ o. tt)
apply_final (Remove n) c = then_final (removed (map.get c.objects n.0)) (λ o. Ok (with_object c n.0 o)) (removed_final (map.get c.objects n.0)) (λ o. tt)
apply_final (Write n offset bytes) c =
    then_final (changed (bytes_after_write offset bytes) (map.get c.objects n.0)) (λ o. Ok (with_object c n.0 o)) (changed_final (bytes_after_write offset bytes) (map.get c.objects n.0)) (λ o. tt)
apply_final (SetLength n size) c = then_final (changed (resize size) (map.get c.objects n.0)) (λ o. Ok (with_object c n.0 o)) (changed_final (resize size) (map.get c.objects n.0)) (λ o. tt)
apply_final (SetName bytes) c = tt

ops_final : (ops : List Op) (c : Contents) → IsFinal (in_turn apply ops c)
ops_final [] c = tt
ops_final (op ∷ ops) c = then_final (apply op c) (in_turn apply ops) (apply_final op c) (ops_final ops)

-- tests of which none refuses so
abbrev is_final_test : Test → Bool
is_final_test t = not (is_again t.error)

tests_final : (x : Result Contents PoolError) → IsFinal x → list_all is_final_test (ops_tests x) ≡ true
tests_final (Ok c) final = refl
tests_final (Err e) final = ap (λ b. list_all (λ (c : Bool). c) (not b ∷ [])) final

first_final : (ts : List Test) (e : PoolError) → list_all is_final_test ts ≡ true → first_refusal ts ≡ Some e → is_again e ≡ false
first_final [] e final is = absurd (let no_way : None ≡ Some e = is in cc)
first_final (t ∷ ts) e final is =
    let both = and_parts (is_final_test t) (list_all is_final_test ts) final in
    go t.applies is (λ h. first_final ts e both.1 h) both.0
  where
    go : (b : Bool) → first_refusal (record { applies = b; error = t.error } ∷ ts) ≡ Some e → (first_refusal ts ≡ Some e → is_again e ≡ false) → is_final_test t ≡ true → is_again e ≡ false
    go true h rest one = let same : t.error ≡ e = cc in ap is_again (sym same) ∙ not-true (is_again t.error) one
    go false h rest one = rest h

module _ (tx : TxId) (ops : List Op) (s : Shown) where
  commit_tests_final : list_all is_final_test (commit_tests tx.0 ops s) ≡ true
  commit_tests_final =
      list_all-append is_final_test (ops_tests (apply_all ops s.contents)) (refused_if _ error.TooMany ∷ [])
      ∙ and_from (list_all is_final_test (ops_tests (apply_all ops s.contents))) true (tests_final (apply_all ops s.contents) (ops_final ops s.contents)) refl

  abbrev error_in : {A : Type 0} → PoolError → Result A PoolError → PoolError
  error_in otherwise (Ok a) = otherwise
  error_in otherwise (Err e) = e

  commit_final : (e : PoolError) (old new : State) (does : ℕ × ℕ → Type 0) (o : Option PoolError) (answer : Result (ℕ × ℕ) PoolError) → first_refusal (commit_tests tx.0 ops s) ≡ o → reply.Refused e ≡ reply_of receipt_reply answer
      → Answers o answer old new does (WantsMemory old new) → is_again e ≡ false
  commit_final e old new does (Some f) answer found is holds =
      let given : reply.Refused e ≡ reply.Refused f = is ∙ ap (reply_of receipt_reply) holds.0 in
      let same : e ≡ f = cc in
      ap is_again same ∙ first_final (commit_tests tx.0 ops s) f commit_tests_final found
  commit_final e old new does None (Ok a) found is holds = absurd (let no_way : reply.Refused e ≡ receipt_reply a = is in cc)
  commit_final e old new does None (Err f) found is holds =
      let given : reply.Refused e ≡ reply.Refused f = is in
      let same : e ≡ f = cc in
      ap is_again (same ∙ holds.0)

never_again : (ranges : List ObjectRange) (e : PoolError) → is_again e ≡ false → IsRetried ranges e → ⊥
never_again ranges e final again = false≢true (sym final ∙ retried_again ranges e again)

-- a transaction that was begun is not made again
pub ended_for_good : (keeps : Type 0) (ranges : List ObjectRange) (tx : TxId) (ops : List Op) (result : Result Receipt PoolError) (v w : SeenPool) → Ends keeps tx ops result v w → IfErr result (λ e. IsRetried ranges e → ⊥)
ended_for_good keeps ranges tx ops (Ok r) v w ended = tt
ended_for_good keeps ranges tx ops (Err e) v w (failed, refused, rest) =
    λ again. ∥∥₁_elim refused.step (λ (x y : ⊥). absurd x)
    (λ made. never_again ranges e (commit_final tx ops (viewed_state v).shown e (viewed_state v) (viewed_state failed) _ _ made.0 refl made.1 made.2) again)
