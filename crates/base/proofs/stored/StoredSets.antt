-- Sets of addresses and the lists that they are made of and told by.
use Rattle.std.proofs.Common.{◌≡◌, ℕ, zero, suc, ◌<◌, Bool, true, false, cond, ◌&&◌, List, [], ◌∷◌, map, refl, ap, sym, ◌∙◌, subst, arith, inl, inr, Some, Less, Equal, Greater, nat_eq}
use Rattle.std.specs.Prelude.{T, slice_get, option_map, ◌==◌, is_some}
use Rattle.std.specs.List.{list_any}
use Rattle.std.specs.Ordering.{nat_cmp, eq_by_cmp, is_lt}
use Rattle.std.proofs.lemmas.Bool.{eqb-true, eq-eqb, cases_lt, le-ltb}
use Rattle.std.proofs.lemmas.Cmp.{nat_cmp_total}
use Rattle.std.proofs.lemmas.Option.{slice_get-map}
use Rattle.std.specs.Cmp.{unsigned_tied, nat_eq_equiv}
use Rattle.std.specs.FinMap as finite
use Rattle.std.specs.FinMap.{entries_sorted, contains_key-keys, get-from_entries, is_sorted}
use Rattle.std.specs.FinMap.Entries.{below_all, is_some-find}
use Rattle.std.specs.FinSet as set
use Rattle.std.specs.FinSet.{FinSet, contains-items, contains-from_list_nat}
use Rattle.base.specs.steps.Locks.{is_in}
use Rattle.base.specs.common.Rising.{as_keys, rising}
use Rattle.base.proofs.common.KeptLists.{any_at, none_at, Some-injective, any_found}

-- an element of a list by its place
abbrev pub IsAt : List ℕ → ℕ → Type 0
IsAt xs x = (i : ℕ) × (slice_get xs i ≡ Some x)

pub in-at : (x : ℕ) (xs : List ℕ) → is_in x xs ≡ true → IsAt xs x
in-at x xs is =
    let found = any_found (λ y. x == y) xs is in
    (found.0, found.2 ∙ ap (λ (y : ℕ). Some y) (sym (eqb-true x found.1 found.3)))

pub at-in : (x : ℕ) (xs : List ℕ) → IsAt xs x → is_in x xs ≡ true
at-in x xs at = any_at (λ y. x == y) xs at.0 x at.1 (eq-eqb x x refl)

-- the set of a list has its elements
pub set-at : (xs : List ℕ) (x : ℕ) → set.contains (set.from_list {R = nat_cmp} xs) x ≡ true → IsAt xs x
set-at xs x is =
    let found = any_found (λ y. nat_eq y x) xs (sym (contains-from_list_nat xs x) ∙ is) in
    (found.0, found.2 ∙ ap (λ (y : ℕ). Some y) (eqb-true found.1 x found.3))

pub at-set : (xs : List ℕ) (x : ℕ) → IsAt xs x → set.contains (set.from_list {R = nat_cmp} xs) x ≡ true
at-set xs x at = contains-from_list_nat xs x ∙ any_at (λ y. nat_eq y x) xs at.0 x at.1 (eq-eqb x x refl)

pub keys-as_keys : (xs : List ℕ) → map (λ (e : ℕ × Unit {0}). e.0) (as_keys xs) ≡ xs
keys-as_keys [] = refl
keys-as_keys (x ∷ xs) = ap (λ l. x ∷ l) (keys-as_keys xs)

-- a number of the rising list is one of the set
pub rising-in : (numbers : FinSet nat_cmp) (i x : ℕ) → slice_get (rising numbers) i ≡ Some x → set.contains numbers x ≡ true
rising-in numbers i x at =
    contains-items numbers x
    ∙ sym (ap is_some (get-from_entries nat_cmp_total (as_keys (set.items numbers)) x) ∙ is_some-find nat_cmp x (as_keys (set.items numbers)) ∙ ap (list_any (eq_by_cmp nat_cmp x)) (keys-as_keys (set.items numbers)))
    ∙ contains_key-keys (finite.from_entries {R = nat_cmp} (as_keys (set.items numbers))) x
    ∙ any_at (eq_by_cmp nat_cmp x) (rising numbers) i x at (unsigned_tied x x ∙ eq-eqb x x refl)

-- the order of numbers, by its answers
pub tied : (q k : ℕ) → eq_by_cmp nat_cmp q k ≡ nat_eq k q
tied q k = unsigned_tied q k ∙ nat_eq_equiv.symm q k

pub less-by_cmp : (x y : ℕ) → T (is_lt (nat_cmp x y)) → x < y
less-by_cmp x y h = elim (cases_lt x y) as (λ _. x < y) [
  | inl below ↦ below
  | inr above ↦ absurd (not_less (nat_eq x y) (subst (λ b. T (is_lt (cond b Less (cond (nat_eq x y) Equal Greater)))) (le-ltb x y above) h))
]
  where
    not_less : (b : Bool) → T (is_lt (cond b Equal Greater)) → ⊥
    not_less true h = h
    not_less false h = h

pub split : (a b : Bool) → T (a && b) → T a × T b
split true b h = (tt, h)
split false b h = absurd h

-- in a list of entries whose keys rise
below-at : (x : ℕ) (es : List (ℕ × Unit {0})) (j y : ℕ) → T (below_all nat_cmp x es) → slice_get (map (λ (e : ℕ × Unit {0}). e.0) es) j ≡ Some y → x < y
below-at x [] j y low at = absurd (none_at j y at)
below-at x (e ∷ es) zero y low at = subst (λ (k : ℕ). x < k) (Some-injective at) (less-by_cmp x e.0 (split (is_lt (nat_cmp x e.0)) (below_all nat_cmp x es) low).0)
below-at x (e ∷ es) (suc j) y low at = below-at x es j y (split (is_lt (nat_cmp x e.0)) (below_all nat_cmp x es) low).1 at

sorted-at : (es : List (ℕ × Unit {0})) (i j x y : ℕ) → T (is_sorted nat_cmp es) → i < j → slice_get (map (λ (e : ℕ × Unit {0}). e.0) es) i ≡ Some x → slice_get (map (λ (e : ℕ × Unit {0}). e.0) es) j ≡ Some y → x < y
sorted-at [] i j x y sorted before at_i at_j = absurd (none_at i x at_i)
sorted-at (e ∷ es) i zero x y sorted before at_i at_j = absurd (omega (arith, before))
sorted-at (e ∷ es) zero (suc j) x y sorted before at_i at_j =
    subst (λ (k : ℕ). k < y) (Some-injective at_i) (below-at e.0 es j y (split (below_all nat_cmp e.0 es) (is_sorted nat_cmp es) sorted).0 at_j)
sorted-at (e ∷ es) (suc i) (suc j) x y sorted before at_i at_j = sorted-at es i j x y (split (below_all nat_cmp e.0 es) (is_sorted nat_cmp es) sorted).1 (omega (arith, before)) at_i at_j

-- the rising list has each number once
pub rising-rises : (numbers : FinSet nat_cmp) (i j x y : ℕ) → i < j → slice_get (rising numbers) i ≡ Some x → slice_get (rising numbers) j ≡ Some y → x < y
rising-rises numbers i j x y before at_i at_j =
    let m = finite.from_entries {R = nat_cmp} (as_keys (set.items numbers)) in
    sorted-at (finite.entries m) i j x y (entries_sorted m) before at_i at_j

-- what a list is made of by a function
pub map-at : {A B : Type 0} (f : A → B) (xs : List A) (i : ℕ) (x : A) → slice_get xs i ≡ Some x → slice_get (map f xs) i ≡ Some (f x)
map-at f xs i x at = slice_get-map f xs i ∙ ap (option_map f) at
