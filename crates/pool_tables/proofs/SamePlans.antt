-- Operations that have the shapes of an allowed plan, and of which each name is one.
use Rattle.std.proofs.Common.{◌≡◌, ◌<◌, ℕ, Bool, true, false, List, get_or, length, map, refl, sym, subst, ◌∙◌}
use Rattle.std.specs.Prelude.{nat_lt}
use Rattle.std.specs.List.{list_all, list_any}
use Rattle.std.proofs.lemmas.Bool.{false≢true, and_parts}
use Rattle.std.proofs.lemmas.List.Folds.{list_all-map, list_any_at}
use Rattle.base.specs.declared.operation.Op.{Op}
use Rattle.base.specs.declared.operation.Shape.{Shape}
use Rattle.base.specs.history.Plans.{shape_of, is_shape_allowed, is_plan_allowed}
use Rattle.base.specs.steps.Refusals.{gives_bad_name}
use Rattle.contents.specs.Ops.{AreOpsAllowed}
use Rattle.transactions.proofs.KeptRanges.{each_passes}

-- if no element passes a test
none_passes : {X : Type 0} (p : X → Bool) (xs : List X) → list_any p xs ≡ false → (k : ℕ) (d : X) → k < length xs → p (get_or xs k d) ≡ false
none_passes p xs none k d below = go (p (get_or xs k d)) refl
  where
    go : (b : Bool) → p (get_or xs k d) ≡ b → p (get_or xs k d) ≡ false
    go true e = absurd (false≢true (sym none ∙ list_any_at p xs k d below e))
    go false e = e

-- they are allowed
pub allowed_ops : (ops : List Op) (plan : List Shape) → map shape_of ops ≡ plan → list_any gives_bad_name ops ≡ false → is_plan_allowed plan ≡ true → AreOpsAllowed ops
allowed_ops ops plan same named allowed =
    let limits = and_parts (nat_lt 0 (length (map shape_of ops))) (list_all is_shape_allowed (map shape_of ops)) (subst (λ (p : List Shape). is_plan_allowed p ≡ true) (sym same) allowed) in
    λ k d below. (
      none_passes gives_bad_name ops named k d below,
      each_passes (λ (op : Op). is_shape_allowed (shape_of op)) ops (sym (list_all-map is_shape_allowed shape_of ops) ∙ limits.1) k d below,
    )
