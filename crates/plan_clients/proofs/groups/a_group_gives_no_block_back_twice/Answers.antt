use Rattle.std.proofs.Common.{◌≡◌, ◌∷◌, [], ℕ, List, Some, nat_eq, sym, ◌∙◌}
use Rattle.std.specs.Prelude.{slice_get}
use Rattle.std.specs.List.{IsDistinct}
use Rattle.std.proofs.lemmas.Bool.{eq-eqb, true≢false}
use Rattle.std.proofs.lemmas.Result.{IfOk-weaker}
use Rattle.plan_clients.proofs.groups.a_group_gives_no_block_back_twice.Goals as goal

-- the first two of a list without repetition
first_two : (xs : List ℕ) (a : ℕ) → IsDistinct nat_eq xs → slice_get xs 0 ≡ Some a → slice_get xs 1 ≡ Some a → ⊥
unfolding IsDistinct
first_two [] a distinct first second = cc
first_two (x ∷ []) a distinct first second = cc
first_two (x ∷ (y ∷ ys)) a distinct first second =
    let is_x : x ≡ a = cc in
    let is_y : y ≡ a = cc in
    true≢false (sym (eq-eqb x y (is_x ∙ sym is_y)) ∙ distinct.0.0)

pub returns : goal.returns
returns g c = IfOk-weaker c.plan_group.result _ _ (λ p told. first_two p.freed.items 4194304 (told.made.places.once c.requires.apart)) (c.plan_group.ensures.objects c.requires.keeps c.requires.held)
