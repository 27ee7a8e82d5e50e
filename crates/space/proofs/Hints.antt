-- The hint at the lowest free block, after a block is taken or given.
use Rattle.std.proofs.Common.{◌≡◌, ℕ, zero, suc, ◌<◌, ◌≤◌, Bool, true, false, List, [], ◌∷◌, length, min, get_or, ◌⊎◌, inl, inr, refl, sym, subst, ◌∙◌, arith}
use Rattle.std.specs.Prelude.{replicate}
use Rattle.std.proofs.Math.ListN.{set as list_set}
use Rattle.std.proofs.lemmas.Bool.{cases_lt}
use Rattle.std.proofs.lemmas.List.{get_or-set_other, get_or-set_same, length-set}
use Rattle.space.specs.SetFlags.{AreClear}
use Rattle.space.specs.Flags.{IsHint}

cleared : (flags : List Bool) (i k : ℕ) → get_or flags k false ≡ false → get_or (list_set flags i false) k false ≡ false
cleared [] i k is = is
cleared (b ∷ flags) zero zero is = refl
cleared (b ∷ flags) zero (suc k) is = is
cleared (b ∷ flags) (suc i) zero is = is
cleared (b ∷ flags) (suc i) (suc k) is = cleared flags i k is

-- a block that is taken leaves those below the hint taken
pub still_taken : (hint i : ℕ) (flags : List Bool) → AreClear 0 hint flags → AreClear 0 hint (list_set flags i false)
still_taken hint i flags taken k from below = cleared flags i k (taken k from below)

-- and one that is given those below it too
taken_below : (hint i : ℕ) (flags : List Bool) → AreClear 0 hint flags → AreClear 0 (min hint i) (list_set flags i true)
taken_below hint i flags taken k from below =
    get_or-set_other flags i k true false (λ same. omega (arith, below, same)) ∙ taken k from (omega (arith, below))

-- so the hint is at the lowest one where a block is given, and at the start where all are free
pub hint_given : (hint i : ℕ) (flags : List Bool) → i < length flags → IsHint flags hint → IsHint (list_set flags i true) (min hint i)
hint_given hint i flags low is = record {
  below = taken_below hint i flags is.below;
  free = λ inside. free_at (cases_lt hint i) (rw (length-set flags i true) at inside);
}
  where
    free_at : (hint < i) ⊎ (i ≤ hint) → min hint i < length flags → get_or (list_set flags i true) (min hint i) false ≡ true
    free_at (inl less) inside =
        let at_hint : min hint i ≡ hint = omega arith in
        rw at_hint (get_or-set_other flags i hint true false (λ same. omega (arith, less, same)) ∙ is.free (omega (arith, inside, at_hint)))
    free_at (inr more) inside =
        let at_block : min hint i ≡ i = omega arith in
        rw at_block (get_or-set_same flags i true false low)

pub hint_of_all : (n : ℕ) (flags : List Bool) → flags ≡ replicate n true → IsHint flags 0
hint_of_all n flags all = record {
  below = λ k from below. absurd (omega (arith, below));
  free = λ inside. subst (λ l. 0 < length l → get_or l 0 false ≡ true) (sym all) (first n) inside;
}
  where
    first : (count : ℕ) → 0 < length (replicate count true) → get_or (replicate count true) 0 false ≡ true
    first zero inside = absurd (omega (arith, inside))
    first (suc count) inside = refl
