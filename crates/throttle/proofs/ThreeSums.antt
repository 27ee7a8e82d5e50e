-- The three sums of the unsynced groups: which one is whose, their total, and what each call does to them.
use Rattle.std.proofs.Common.{◌≡◌, ◌≢◌, ℕ, zero, suc, ◌+◌, ◌-◌, ◌<◌, ◌≤◌, List, [], ◌∷◌, length, get_or, Option, Some, None, refl, ap, sym, ◌∙◌, arith, ◌⊎◌, inl, inr}
use Rattle.std.specs.Prelude.{unwrap_or, set as list_set}
use Rattle.std.proofs.lemmas.Bool.{cases_lt, cases_eq}
use Rattle.std.proofs.lemmas.List.{length-set, get_or-set_same, get_or-set_other}
use Rattle.std.specs.Ordering.{nat_cmp}
use Rattle.std.specs.FinMap as finite
use Rattle.std.specs.FinMap.{FinMap, get-empty}
use Rattle.base.specs.steps.Charges.{with_sum}
use Rattle.throttle.specs.DirtyBytes.{MayBeUnsynced, AreWithinLimit, sum_of, total_of, kept_sum}
use Rattle.throttle.specs.DirtyFields.{sums_from, dirty_bytes_of, three_total}
use Rattle.throttle.specs.declared.dirty.Dirty.TheInside.{Inside}
use Rattle.throttle.proofs.GroupSums.{unwrap_or-entry_of, get-with_sum_own, get-with_sum_other, get-removed, get-removed_other, get-before, get-past, get-at, same_sums}

-- of three numbers one is another
pub three_total-set : (ns : List ℕ) (i n : ℕ) → length ns ≡ 3 → i < 3 → three_total (list_set ns i n) + get_or ns i 0 ≡ three_total ns + n
three_total-set [] i n len low = absurd (omega arith)
three_total-set (a ∷ []) i n len low = absurd (omega arith)
three_total-set (a ∷ b ∷ []) i n len low = absurd (omega arith)
three_total-set (a ∷ b ∷ c ∷ []) zero n len low = omega arith
three_total-set (a ∷ b ∷ c ∷ []) (suc zero) n len low = omega arith
three_total-set (a ∷ b ∷ c ∷ []) (suc (suc zero)) n len low = omega arith
three_total-set (a ∷ b ∷ c ∷ []) (suc (suc (suc i))) n len low = absurd (omega arith)
three_total-set (a ∷ b ∷ c ∷ e ∷ ns) i n len low = absurd (omega arith)

-- one of the sums is no more than all
pub sum-within_three : (ns : List ℕ) (i : ℕ) → length ns ≡ 3 → i < 3 → get_or ns i 0 ≤ three_total ns
sum-within_three ns i len low =
    let changed : three_total (list_set ns i 0) + get_or ns i 0 ≡ three_total ns + 0 = three_total-set ns i 0 len low in
    omega (arith, changed)

module _ (d : Inside) (three : length d.sums ≡ 3) where
  -- the sum of a group after the synced one
  sum_of-place : (i group : ℕ) → i < 3 → group ≡ d.synced.0 + 1 + i → sum_of (dirty_bytes_of d) group ≡ get_or d.sums i 0
  sum_of-place i group low is =
      let within : i < length d.sums = rw three low in
      ap (λ o. unwrap_or o 0) (get-at (d.synced.0 + 1) d.sums i group within is) ∙ unwrap_or-entry_of (get_or d.sums i 0)

  pub sum_of-unsynced : (group : ℕ) → MayBeUnsynced (dirty_bytes_of d) group → sum_of (dirty_bytes_of d) group ≡ get_or d.sums (group - d.synced.0 - 1) 0
  sum_of-unsynced group may = let above : d.synced.0 < group = may.0 in let below : group ≤ d.synced.0 + 3 = may.1 in sum_of-place (group - d.synced.0 - 1) group (omega arith) (omega arith)

  -- other groups have none
  pub sum_of-other : (group : ℕ) → (group ≤ d.synced.0) ⊎ (d.synced.0 + 3 < group) → sum_of (dirty_bytes_of d) group ≡ 0
  sum_of-other group (inl low) = ap (λ o. unwrap_or o 0) (get-before (d.synced.0 + 1) d.sums group (omega arith))
  sum_of-other group (inr high) = ap (λ o. unwrap_or o 0) (get-past (d.synced.0 + 1) d.sums group (omega arith))

  pub total_of-three : total_of (dirty_bytes_of d) ≡ three_total d.sums
  total_of-three =
      let first : sum_of (dirty_bytes_of d) (d.synced.0 + 1) ≡ get_or d.sums 0 0 = sum_of-place 0 (d.synced.0 + 1) (omega arith) (omega arith) in
      let second : sum_of (dirty_bytes_of d) (d.synced.0 + 1 + 1) ≡ get_or d.sums 1 0 = sum_of-place 1 (d.synced.0 + 1 + 1) (omega arith) (omega arith) in
      let third : sum_of (dirty_bytes_of d) (d.synced.0 + 1 + 1 + 1) ≡ get_or d.sums 2 0 = sum_of-place 2 (d.synced.0 + 1 + 1 + 1) (omega arith) (omega arith) in
      omega (arith, first, second, third)

  pub are_within_limit : three_total d.sums ≤ d.limit → AreWithinLimit (dirty_bytes_of d)
  are_within_limit low = record {
    unsynced = λ group sum is. by group sum is (cases_lt d.synced.0 group) (cases_lt (d.synced.0 + 3) group);
    within = let total : total_of (dirty_bytes_of d) ≡ three_total d.sums = total_of-three in omega arith;
  }
    where
      no_entry : {A : Type 0} (o : Option A) (a : A) → o ≡ None → o ≡ Some a → ⊥
      no_entry o a none some = let no_way : None ≡ Some a = sym none ∙ some in cc

      positive : (n sum : ℕ) → kept_sum n ≡ Some sum → 0 < sum
      positive zero sum is = absurd (no_entry (kept_sum zero) sum refl is)
      positive (suc n) sum is = let same : suc n ≡ sum = ap (λ o. unwrap_or o 0) is in omega arith

      by : (group sum : ℕ) → finite.get (sums_from (d.synced.0 + 1) d.sums) group ≡ Some sum → (d.synced.0 < group) ⊎ (group ≤ d.synced.0) → (d.synced.0 + 3 < group) ⊎ (group ≤ d.synced.0 + 3)
          → MayBeUnsynced (dirty_bytes_of d) group × (0 < sum)
      by group sum is (inr low) high = absurd (no_entry _ sum (get-before (d.synced.0 + 1) d.sums group (omega arith)) is)
      by group sum is (inl above) (inl high) = absurd (no_entry _ sum (get-past (d.synced.0 + 1) d.sums group (omega arith)) is)
      by group sum is (inl above) (inr below) = (
        (above, below),
        positive (get_or d.sums (group - d.synced.0 - 1) 0) sum
            (sym (get-at (d.synced.0 + 1) d.sums (group - d.synced.0 - 1) group (omega arith) (omega arith)) ∙ is),
      )

  -- the sum of a group becomes another
  pub sums_from-set : (group n : ℕ) → MayBeUnsynced (dirty_bytes_of d) group
      → with_sum group n (sums_from (d.synced.0 + 1) d.sums) ≡ sums_from (d.synced.0 + 1) (list_set d.sums (group - d.synced.0 - 1) n)
  sums_from-set group n may =
      let above : d.synced.0 < group = may.0 in
      let below : group ≤ d.synced.0 + 3 = may.1 in
      let still : length (list_set d.sums (group - d.synced.0 - 1) n) ≡ 3 = length-set d.sums (group - d.synced.0 - 1) n ∙ three in
      same_sums (with_sum group n (sums_from (d.synced.0 + 1) d.sums)) (d.synced.0 + 1) (list_set d.sums (group - d.synced.0 - 1) n)
      (λ q low. get-with_sum_other group n (sums_from (d.synced.0 + 1) d.sums) q (λ e. omega arith) ∙ get-before (d.synced.0 + 1) d.sums q low)
      (λ q high. get-with_sum_other group n (sums_from (d.synced.0 + 1) d.sums) q (λ e. omega arith) ∙ get-past (d.synced.0 + 1) d.sums q (omega arith))
      (λ i q low is. at i q (omega arith) is (cases_eq q group))
    where
      at : (i q : ℕ) → i < 3 → q ≡ d.synced.0 + 1 + i → (q ≡ group) ⊎ (q ≢ group)
          → finite.get (with_sum group n (sums_from (d.synced.0 + 1) d.sums)) q ≡ kept_sum (get_or (list_set d.sums (group - d.synced.0 - 1) n) i 0)
      at i q low is (inl same) =
          let place : i ≡ group - d.synced.0 - 1 = omega arith in
          rw (same, place, get_or-set_same d.sums (group - d.synced.0 - 1) n 0 (omega arith)) (get-with_sum_own group n (sums_from (d.synced.0 + 1) d.sums))
      at i q low is (inr other) =
          let above : d.synced.0 < group = may.0 in
          let apart : i ≢ group - d.synced.0 - 1 = λ e. other (omega arith) in
          get-with_sum_other group n (sums_from (d.synced.0 + 1) d.sums) q other
          ∙ get-at (d.synced.0 + 1) d.sums i q (omega arith) is
          ∙ ap kept_sum (sym (get_or-set_other d.sums (group - d.synced.0 - 1) i n 0 apart))

  -- the first sum ends, and the others move up
  pub sums_from-synced : finite.remove (sums_from (d.synced.0 + 1) d.sums) (d.synced.0 + 1)
      ≡ sums_from (d.synced.0 + 1 + 1) (get_or d.sums 1 0 ∷ get_or d.sums 2 0 ∷ 0 ∷ [])
  sums_from-synced =
      same_sums (finite.remove sums (d.synced.0 + 1)) (d.synced.0 + 1 + 1) (get_or d.sums 1 0 ∷ get_or d.sums 2 0 ∷ 0 ∷ [])
      (λ q low. before q (cases_eq q (d.synced.0 + 1)) low)
      (λ q high. get-removed_other sums (d.synced.0 + 1) q (λ e. omega arith) ∙ get-past (d.synced.0 + 1) d.sums q (omega arith))
      (λ i q low is. get-removed_other sums (d.synced.0 + 1) q (λ e. omega arith) ∙ at i q low is)
    where
      sums : FinMap nat_cmp ℕ
      sums = sums_from (d.synced.0 + 1) d.sums

      before : (q : ℕ) → (q ≡ d.synced.0 + 1) ⊎ (q ≢ d.synced.0 + 1) → q < d.synced.0 + 1 + 1 → finite.get (finite.remove sums (d.synced.0 + 1)) q ≡ None
      before q (inl same) low = rw same (get-removed sums (d.synced.0 + 1))
      before q (inr other) low = get-removed_other sums (d.synced.0 + 1) q other ∙ get-before (d.synced.0 + 1) d.sums q (omega arith)

      at : (i q : ℕ) → i < 3 → q ≡ d.synced.0 + 1 + 1 + i → finite.get sums q ≡ kept_sum (get_or (get_or d.sums 1 0 ∷ get_or d.sums 2 0 ∷ 0 ∷ []) i 0)
      at zero q low is = get-at (d.synced.0 + 1) d.sums 1 q (omega arith) (omega arith)
      at (suc zero) q low is = get-at (d.synced.0 + 1) d.sums 2 q (omega arith) (omega arith)
      at (suc (suc zero)) q low is = get-past (d.synced.0 + 1) d.sums q (omega arith)
      at (suc (suc (suc i))) q low is = absurd (omega arith)

-- nothing is charged at first
pub sums_from-none : (first : ℕ) → sums_from first (0 ∷ 0 ∷ 0 ∷ []) ≡ finite.empty
sums_from-none first = sym (same_sums finite.empty first (0 ∷ 0 ∷ 0 ∷ []) (λ q low. get-empty nat_cmp q) (λ q high. get-empty nat_cmp q) (λ i q low is. get-empty nat_cmp q ∙ none i low))
  where
    none : (i : ℕ) → i < 3 → None ≡ kept_sum (get_or (0 ∷ 0 ∷ 0 ∷ []) i 0)
    none zero low = refl
    none (suc zero) low = refl
    none (suc (suc zero)) low = refl
    none (suc (suc (suc i))) low = absurd (omega arith)
