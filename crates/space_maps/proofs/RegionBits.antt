-- The bits of a region, as blocks are put into them one after another.
use Rattle.std.proofs.Common.{◌≡◌, ℕ, ◌+◌, ◌<◌, Bool, true, false, not, cond, ◌&&◌, ◌||◌, ◌==◌, List, length, take, get_or, refl, ap, sym, ◌∙◌}
use Rattle.std.specs.List.{list_any}
use Rattle.std.proofs.lemmas.List.Folds.{list_any_more}
use Rattle.base.specs.steps.Locks.{is_in}

both : (a b v x : Bool) → cond b v (cond a v x) ≡ cond (a || b) v x
both true true v x = refl
both true false v x = refl
both false b v x = refl

-- one address more of a list
pub one_more : (x : ℕ) (addresses : List ℕ) (i d : ℕ) (value old : Bool) → i < length addresses
    → cond (x == get_or addresses i d) value (cond (is_in x (take i addresses)) value old) ≡ cond (is_in x (take (i + 1) addresses)) value old
one_more x addresses i d value old low =
    both (is_in x (take i addresses)) (x == get_or addresses i d) value old
    ∙ ap (λ (b : Bool). cond b value old) (sym (list_any_more (λ y. x == y) addresses i d low))

-- what the log and the freed blocks make free, and then the taken ones used
pub bits_in_turn : (free log freed taken : Bool) → cond taken false (cond freed true (cond log true free)) ≡ (((free || log) || freed) && not taken)
bits_in_turn true true true true = refl
bits_in_turn true true true false = refl
bits_in_turn true true false true = refl
bits_in_turn true true false false = refl
bits_in_turn true false true true = refl
bits_in_turn true false true false = refl
bits_in_turn true false false true = refl
bits_in_turn true false false false = refl
bits_in_turn false true true true = refl
bits_in_turn false true true false = refl
bits_in_turn false true false true = refl
bits_in_turn false true false false = refl
bits_in_turn false false true true = refl
bits_in_turn false false true false = refl
bits_in_turn false false false true = refl
bits_in_turn false false false false = refl
