-- The sum of a group among some, and which sums a map has that is made of them.
use Rattle.std.proofs.Common.{◌≡◌, ◌≢◌, ℕ, zero, suc, ◌+◌, ◌-◌, ◌<◌, ◌≤◌, cond, unwrap_or, List, [], ◌∷◌, length, get_or, None, refl, ap, sym, ◌∙◌, arith, ◌⊎◌, inl, inr}
use Rattle.std.specs.Ordering.{nat_cmp, eq_by_cmp}
use Rattle.std.specs.Cmp.{unsigned_tied}
use Rattle.std.proofs.lemmas.Cmp.{nat_cmp_total}
use Rattle.std.proofs.lemmas.Bool.{cases_lt, eq-eqb, ne_eqb}
use Rattle.std.specs.FinMap as finite
use Rattle.std.specs.FinMap.{FinMap, get-insert, get-remove, get-empty, same_map, nat_cmp-IsAntisymmetric}
use Rattle.base.specs.steps.Charges.{with_sum}
use Rattle.throttle.specs.DirtyBytes.{kept_sum}
use Rattle.throttle.specs.DirtyFields.{sums_from}

pub unwrap_or-entry_of : (n : ℕ) → unwrap_or (kept_sum n) 0 ≡ n
unwrap_or-entry_of zero = refl
unwrap_or-entry_of (suc n) = refl

pub with_sum-some : (group n : ℕ) (m : FinMap nat_cmp ℕ) → 0 < n → with_sum group n m ≡ finite.insert m group n
unfolding with_sum
with_sum-some group zero m some = absurd (omega arith)
with_sum-some group (suc n) m some = refl

get-with_sum : (g n : ℕ) (m : FinMap nat_cmp ℕ) (q : ℕ) → finite.get (with_sum g n m) q ≡ cond (eq_by_cmp nat_cmp q g) (kept_sum n) (finite.get m q)
unfolding with_sum
get-with_sum g zero m q = get-remove nat_cmp_total m g q
get-with_sum g (suc n) m q = get-insert nat_cmp_total m g (suc n) q

pub get-with_sum_own : (g n : ℕ) (m : FinMap nat_cmp ℕ) → finite.get (with_sum g n m) g ≡ kept_sum n
get-with_sum_own g n m = get-with_sum g n m g ∙ ap (λ b. cond b (kept_sum n) (finite.get m g)) (unsigned_tied g g ∙ eq-eqb g g refl)

pub get-with_sum_other : (g n : ℕ) (m : FinMap nat_cmp ℕ) (q : ℕ) → q ≢ g → finite.get (with_sum g n m) q ≡ finite.get m q
get-with_sum_other g n m q ne = get-with_sum g n m q ∙ ap (λ b. cond b (kept_sum n) (finite.get m q)) (unsigned_tied q g ∙ ne_eqb q g ne)

pub get-removed : (m : FinMap nat_cmp ℕ) (g : ℕ) → finite.get (finite.remove m g) g ≡ None
get-removed m g = get-remove nat_cmp_total m g g ∙ ap (λ b. cond b None (finite.get m g)) (unsigned_tied g g ∙ eq-eqb g g refl)

pub get-removed_other : (m : FinMap nat_cmp ℕ) (g q : ℕ) → q ≢ g → finite.get (finite.remove m g) q ≡ finite.get m q
get-removed_other m g q ne = get-remove nat_cmp_total m g q ∙ ap (λ b. cond b None (finite.get m q)) (unsigned_tied q g ∙ ne_eqb q g ne)

-- no sum is of a group before the first one or past the last one
pub get-before : (first : ℕ) (ns : List ℕ) (q : ℕ) → q < first → finite.get (sums_from first ns) q ≡ None
unfolding sums_from
get-before first [] q low = get-empty nat_cmp q
get-before first (n ∷ ns) q low = get-with_sum_other first n (sums_from (first + 1) ns) q (λ e. omega arith) ∙ get-before (first + 1) ns q (omega arith)

pub get-past : (first : ℕ) (ns : List ℕ) (q : ℕ) → first + length ns ≤ q → finite.get (sums_from first ns) q ≡ None
unfolding sums_from
get-past first [] q high = get-empty nat_cmp q
get-past first (n ∷ ns) q high = get-with_sum_other first n (sums_from (first + 1) ns) q (λ e. omega arith) ∙ get-past (first + 1) ns q (omega arith)

-- those between have their sums
pub get-at : (first : ℕ) (ns : List ℕ) (i q : ℕ) → i < length ns → q ≡ first + i → finite.get (sums_from first ns) q ≡ kept_sum (get_or ns i 0)
unfolding sums_from
get-at first [] i q low is = absurd (omega arith)
get-at first (n ∷ ns) zero q low is = let same : q ≡ first = omega arith in rw same (get-with_sum_own first n (sums_from (first + 1) ns))
get-at first (n ∷ ns) (suc i) q low is = get-with_sum_other first n (sums_from (first + 1) ns) q (λ e. omega arith) ∙ get-at (first + 1) ns i q (omega arith) (omega arith)

-- a map with just these sums is that of them
pub same_sums : (m : FinMap nat_cmp ℕ) (first : ℕ) (ns : List ℕ) → ((q : ℕ) → q < first → finite.get m q ≡ None) → ((q : ℕ) → first + length ns ≤ q → finite.get m q ≡ None)
    → ((i q : ℕ) → i < length ns → q ≡ first + i → finite.get m q ≡ kept_sum (get_or ns i 0)) → m ≡ sums_from first ns
same_sums m first ns before past at = same_map nat_cmp_total nat_cmp-IsAntisymmetric _ _ (λ q. by q (cases_lt q first) (cases_lt q (first + length ns)))
  where
    by : (q : ℕ) → (q < first) ⊎ (first ≤ q) → (q < first + length ns) ⊎ (first + length ns ≤ q) → finite.get m q ≡ finite.get (sums_from first ns) q
    by q (inl low) high = before q low ∙ sym (get-before first ns q low)
    by q (inr from) (inr high) = past q high ∙ sym (get-past first ns q high)
    by q (inr from) (inl within) =
        let i : q - first < length ns = omega arith in
        let is : q ≡ first + (q - first) = omega arith in
        at (q - first) q i is ∙ sym (get-at first ns (q - first) q i is)
