-- Operations have the shapes of a plan, one for one, if the test of the definitions says so.
use Rattle.std.proofs.Common.{ℕ, ◌≡◌, ◌<◌, ◌↔◌, Bool, true, false, List, [], ◌∷◌, length, map, get_or, refl, sym, subst, ◌∙◌, eq-eqb}
use Rattle.std.specs.Prelude.{IsTrue, ◌==◌}
use Rattle.std.proofs.lemmas.List.{ext_get_or, get_or-map, length-map}
use Rattle.base.specs.declared.operation.Op.{Op}
use Rattle.base.specs.declared.operation.Op.TheVariants as op
use Rattle.base.specs.declared.operation.Shape.{Shape}
use Rattle.base.specs.declared.operation.Shape.TheVariants as shape
use Rattle.base.specs.history.Plans.{shape_of}
use Rattle.base.specs.steps.Refusals.{is_same_plan, is_same_shape}
use Rattle.base.proofs.history.CommitOrder.{same_plan}

abbrev some_op : Op
some_op = op.Create (record { 0 = 0 })

abbrev some_shape : Shape
some_shape = shape.Create (record { 0 = 0 })

pub all_shapes : (ops : List Op) (plan : List Shape) → length ops ≡ length plan
    → ((k : ℕ) (d : Op) (e : Shape) → k < length ops → shape_of (get_or ops k d) ≡ get_or plan k e) → map shape_of ops ≡ plan
all_shapes ops plan long each =
    ext_get_or some_shape (map shape_of ops) plan (simp length-map long)
    (λ k below. let low : k < length ops = simp length-map at below in
    get_or-map shape_of ops k some_op some_shape low ∙ each k some_op some_shape low)

same_number : (n : ℕ) → (n == n) ≡ true
same_number n = eq-eqb n n refl

shape_same : (x : Shape) → is_same_shape x x ≡ true
shape_same (shape.Create n) = same_number n.0
shape_same (shape.Remove n) = same_number n.0
shape_same (shape.Write n o c) = rw (same_number n.0, same_number o, same_number c) refl
shape_same (shape.SetLength n k) = rw (same_number n.0, same_number k) refl
shape_same (shape.SetName c) = same_number c

plan_same : (p : List Shape) → is_same_plan p p ≡ true
plan_same [] = refl
plan_same (x ∷ xs) = rw (shape_same x, plan_same xs) refl

-- a test that says whether two plans are equal
pub plan_test : (r : Bool) (p q : List Shape) → (IsTrue r ↔ (p ≡ q)) → r ≡ is_same_plan p q
plan_test r p q h = go r (is_same_plan p q) h refl
  where
    go : (a b : Bool) → (IsTrue a ↔ (p ≡ q)) → is_same_plan p q ≡ b → a ≡ b
    go true true k e = refl
    go false false k e = refl
    go true false k e = sym (subst (λ (l : List Shape). is_same_plan p l ≡ true) (k.0 refl) (plan_same p)) ∙ e
    go false true k e = k.1 (same_plan p q e)
