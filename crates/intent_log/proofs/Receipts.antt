-- The highest group, and the lowest and the highest ordinal, of some receipts.
use Rattle.std.proofs.Common.{◌≡◌, ℕ, ◌+◌, ◌<◌, ◌≤◌, ◌||◌, Bool, false, List, length, take, get_or, sym, ap, ◌∙◌, arith, max, min}
use Rattle.std.specs.Prelude.{All, nat_lt}
use Rattle.std.specs.List.{list_any}
use Rattle.std.proofs.lemmas.Bool.Decides.{nat_tests}
use Rattle.std.proofs.lemmas.List.Elements.{All-more}
use Rattle.std.proofs.lemmas.List.Folds.{list_any_more, list_any_none}
use Rattle.base.specs.declared.names.Receipt.{Receipt}
use Rattle.intent_log.specs.Receipts.{LiesWithin, is_in_later_group, is_same_receipt}

above_max : (group a b : ℕ) → (nat_lt group a || nat_lt group b) ≡ nat_lt group (max b a)
above_max group a b = grind (arith, nat_tests)

-- the highest group of one receipt more
pub highest_more : (group i highest top : ℕ) (rs : List Receipt) (d : Receipt) → i < length rs → top ≡ max (get_or rs i d).group.0 highest
    → list_any (is_in_later_group group) (take i rs) ≡ nat_lt group highest → list_any (is_in_later_group group) (take (i + 1) rs) ≡ nat_lt group top
highest_more group i highest top rs d within is before =
    list_any_more (is_in_later_group group) rs i d within ∙ ap (λ (x : Bool). x || is_in_later_group group (get_or rs i d)) before
    ∙ above_max group highest (get_or rs i d).group.0 ∙ ap (nat_lt group) (sym is)

-- the ordinals of one receipt more
pub between_more : (i first last low high : ℕ) (rs : List Receipt) (d : Receipt) → i < length rs → low ≡ min (get_or rs i d).ordinal.0 first → high ≡ max (get_or rs i d).ordinal.0 last
    → All (LiesWithin first last) (take i rs) → All (LiesWithin low high) (take (i + 1) rs)
between_more i first last low high rs d within least most before =
    All-more (LiesWithin low high) rs i d within
    (λ k e below. let was = before k e below in (omega (arith, was.0, least), omega (arith, was.1, most)))
    (omega (arith, least), omega (arith, most))

-- a receipt outside of the ordinals is none of them
pub none_outside : (r : Receipt) (first last : ℕ) (rs : List Receipt) → All (LiesWithin first last) rs → (first ≤ r.ordinal.0 → r.ordinal.0 ≤ last → ⊥) → list_any (is_same_receipt r) rs ≡ false
none_outside r first last rs between outside = list_any_none (is_same_receipt r) rs (λ k d within. other _ (between k d within))
  where
    other : (s : Receipt) → LiesWithin first last s → is_same_receipt r s ≡ false
    other s (low, high) = grind (arith, nat_tests)
