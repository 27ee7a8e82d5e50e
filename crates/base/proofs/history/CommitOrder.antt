-- What a commit that nothing refuses has found: its transaction, whose plan its operations have.
use Rattle.std.proofs.Common.{◌≡◌, ℕ, zero, suc, Bool, true, false, not, ◌&&◌, List, [], ◌∷◌, map, refl, ap, sym, ◌∙◌}
use Rattle.std.specs.Prelude.{Option, Some, None, Ok, Err, slice_get, ◌==◌}
use Rattle.std.proofs.lemmas.Bool.{eqb-true, not-false, and_parts}
use Rattle.std.specs.Option.{option_map_or}
use Rattle.base.specs.declared.error.PoolError.{PoolError}
use Rattle.base.specs.declared.names.ObjectId.{ObjectId}
use Rattle.base.specs.declared.operation.Op.{Op}
use Rattle.base.specs.declared.operation.Shape.{Shape}
use Rattle.base.specs.declared.operation.Shape.TheVariants as shape
use Rattle.base.specs.history.Plans.{shape_of}
use Rattle.base.specs.steps.Groups.{Admission}
use Rattle.base.specs.steps.Refusals.{Test, first_refusal, is_same_shape, is_same_plan, transaction_of, commit_tests, commit_refusal}
use Rattle.base.specs.steps.Steps.{State, Answers}

-- where no refusal applies, each test gives false
pub no_refusal : (ts : List Test) → first_refusal ts ≡ None → (i : ℕ) (t : Test) → slice_get ts i ≡ Some t → t.applies ≡ false
no_refusal [] none i t at = absurd (let no_way : None ≡ Some t = at in cc)
no_refusal (x ∷ xs) none i t at = cases (λ h. no_refusal xs h) x.applies refl none i at
  where
    cases : (first_refusal xs ≡ None → (i : ℕ) (t : Test) → slice_get xs i ≡ Some t → t.applies ≡ false) → (b : Bool) → x.applies ≡ b
        → first_refusal (record { applies = b; error = x.error } ∷ xs) ≡ None → (i : ℕ) → slice_get (x ∷ xs) i ≡ Some t → t.applies ≡ false
    cases rest true is h i at = absurd (let no_way : Some x.error ≡ None = h in cc)
    cases rest false is h zero at = let same : x ≡ t = ap (λ o. elim o as (λ _. Test) [ None ↦ x | Some y ↦ y ]) at in ap (λ (y : Test). y.applies) (sym same) ∙ is
    cases rest false is h (suc i) at = rest h i t at

-- what is answered Ok was refused by nothing
pub ok-none : {A : Type 0} (r : Option PoolError) (a : A) (old new : State) (does : A → Type 0) (own : PoolError → Type 0) → Answers r (Ok a) old new does own → (r ≡ None) × does a
ok-none None a old new does own h = (refl, h)
ok-none (Some e) a old new does own h = absurd (let no_way : Ok a ≡ Err e = h.0 in cc)

same_object : (m n : ObjectId) → (m.0 == n.0) ≡ true → m ≡ n
same_object m n h = let same : m.0 ≡ n.0 = eqb-true m.0 n.0 h in ap (λ (k : ℕ). let o : ObjectId = record { 0 = k } in o) same

-- the test of two shapes tells them equal
same_shape : (x y : Shape) → is_same_shape x y ≡ true → x ≡ y
same_shape (shape.Create m) (shape.Create n) h = ap (λ o. shape.Create o) (same_object m n h)
same_shape (shape.Remove m) (shape.Remove n) h = ap (λ o. shape.Remove o) (same_object m n h)
same_shape (shape.Write m o c) (shape.Write n p d) h =
    let both : ((m.0 == n.0) ≡ true) × (((o == p) && (c == d)) ≡ true) = and_parts (m.0 == n.0) ((o == p) && (c == d)) h in
    let rest : ((o == p) ≡ true) × ((c == d) ≡ true) = and_parts (o == p) (c == d) both.1 in
    λ i. shape.Write (same_object m n both.0 i) (eqb-true o p rest.0 i) (eqb-true c d rest.1 i)
same_shape (shape.SetLength m k) (shape.SetLength n l) h =
    let both : ((m.0 == n.0) ≡ true) × ((k == l) ≡ true) = and_parts (m.0 == n.0) (k == l) h in
    λ i. shape.SetLength (same_object m n both.0 i) (eqb-true k l both.1 i)
same_shape (shape.SetName c) (shape.SetName d) h = ap (λ k. shape.SetName k) (eqb-true c d h)
same_shape (shape.Create m) (shape.Remove n) h = absurd (let no_way : false ≡ true = h in cc)
same_shape (shape.Create m) (shape.Write n p d) h = absurd (let no_way : false ≡ true = h in cc)
same_shape (shape.Create m) (shape.SetLength n l) h = absurd (let no_way : false ≡ true = h in cc)
same_shape (shape.Create m) (shape.SetName d) h = absurd (let no_way : false ≡ true = h in cc)
same_shape (shape.Remove m) (shape.Create n) h = absurd (let no_way : false ≡ true = h in cc)
same_shape (shape.Remove m) (shape.Write n p d) h = absurd (let no_way : false ≡ true = h in cc)
same_shape (shape.Remove m) (shape.SetLength n l) h = absurd (let no_way : false ≡ true = h in cc)
same_shape (shape.Remove m) (shape.SetName d) h = absurd (let no_way : false ≡ true = h in cc)
same_shape (shape.Write m o c) (shape.Create n) h = absurd (let no_way : false ≡ true = h in cc)
same_shape (shape.Write m o c) (shape.Remove n) h = absurd (let no_way : false ≡ true = h in cc)
same_shape (shape.Write m o c) (shape.SetLength n l) h = absurd (let no_way : false ≡ true = h in cc)
same_shape (shape.Write m o c) (shape.SetName d) h = absurd (let no_way : false ≡ true = h in cc)
same_shape (shape.SetLength m k) (shape.Create n) h = absurd (let no_way : false ≡ true = h in cc)
same_shape (shape.SetLength m k) (shape.Remove n) h = absurd (let no_way : false ≡ true = h in cc)
same_shape (shape.SetLength m k) (shape.Write n p d) h = absurd (let no_way : false ≡ true = h in cc)
same_shape (shape.SetLength m k) (shape.SetName d) h = absurd (let no_way : false ≡ true = h in cc)
same_shape (shape.SetName c) (shape.Create n) h = absurd (let no_way : false ≡ true = h in cc)
same_shape (shape.SetName c) (shape.Remove n) h = absurd (let no_way : false ≡ true = h in cc)
same_shape (shape.SetName c) (shape.Write n p d) h = absurd (let no_way : false ≡ true = h in cc)
same_shape (shape.SetName c) (shape.SetLength n l) h = absurd (let no_way : false ≡ true = h in cc)

-- and that of two plans
pub same_plan : (p q : List Shape) → is_same_plan p q ≡ true → p ≡ q
same_plan [] [] h = refl
same_plan [] (y ∷ ys) h = absurd (let no_way : false ≡ true = h in cc)
same_plan (x ∷ xs) [] h = absurd (let no_way : false ≡ true = h in cc)
same_plan (x ∷ xs) (y ∷ ys) h =
    let both : (is_same_shape x y ≡ true) × (is_same_plan xs ys ≡ true) = and_parts (is_same_shape x y) (is_same_plan xs ys) h in
    λ i. same_shape x y both.0 i ∷ same_plan xs ys both.1 i

-- the transaction that a commit finds, and that its operations have its plan's shapes
pub found-plan : (tx : ℕ) (ops : List Op) (s : State) (a : Admission) → commit_refusal tx ops s.shown ≡ None → transaction_of tx s.shown ≡ Some a → map shape_of ops ≡ a.plan
found-plan tx ops s a none found =
    let in_plan : option_map_or (λ (x : Admission). not (is_same_plan (map shape_of ops) x.plan)) (transaction_of tx s.shown) false ≡ false = no_refusal (commit_tests tx ops s.shown) none 2 _ refl in
    same_plan (map shape_of ops) a.plan (not-false _ (sym (ap (λ o. option_map_or (λ (x : Admission). not (is_same_plan (map shape_of ops) x.plan)) o false) found) ∙ in_plan))
