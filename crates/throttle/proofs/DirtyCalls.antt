-- What each call of the dirty bytes does to their three sums and to the total.
use Rattle.std.proofs.Common.{◌≡◌, ℕ, ◌+◌, ◌-◌, ◌<◌, ◌≤◌, [], ◌∷◌, length, get_or, refl, ap, sym, subst, ◌∙◌, arith, ◌⊎◌, false}
use Rattle.std.specs.Prelude.{unwrap_or, set as list_set}
use Rattle.std.specs.Ordering.{nat_cmp}
use Rattle.std.specs.FinMap as finite
use Rattle.std.specs.FinMap.{FinMap}
use Rattle.std.proofs.lemmas.Bool.{ltb-false}
use Rattle.std.proofs.lemmas.List.{length-set}
use Rattle.base.specs.declared.names.Group.{Group}
use Rattle.base.specs.steps.Charges.{with_sum}
use Rattle.throttle.specs.DirtyBytes.{DirtyBytes, MayBeUnsynced, sum_of, total_of, is_throttled, after_admit, after_cancel, after_synced}
use Rattle.throttle.specs.DirtyFields.{dirty_bytes_of, three_total, IsWithinLimit}
use Rattle.throttle.specs.declared.dirty.Dirty.TheInside.{Inside}
use Rattle.throttle.proofs.GroupSums.{unwrap_or-entry_of, get-with_sum_own}
use Rattle.throttle.proofs.ThreeSums.{three_total-set, sum-within_three, sum_of-unsynced, sum_of-other, total_of-three, sums_from-set, sums_from-synced}

-- the fields with another sum at the place of a group, and with the sums moved up
abbrev pub with_place : Inside → ℕ → ℕ → Inside
with_place d group n = record d { sums = list_set d.sums (group - d.synced.0 - 1) n }

abbrev pub moved_up : Inside → Group → Inside
moved_up d group = record d { synced = group; sums = get_or d.sums 1 0 ∷ get_or d.sums 2 0 ∷ 0 ∷ [] }

abbrev pub sum_at : Inside → ℕ → ℕ
sum_at d group = get_or d.sums (group - d.synced.0 - 1) 0

module _ (d : Inside) (x : IsWithinLimit d) (group : ℕ) (may : MayBeUnsynced (dirty_bytes_of d) group) where
  place-low : group - d.synced.0 - 1 < 3
  place-low = let above : d.synced.0 < group = may.0 in let below : group ≤ d.synced.0 + 3 = may.1 in omega arith

  still_three : (n : ℕ) → length (list_set d.sums (group - d.synced.0 - 1) n) ≡ 3
  still_three n = length-set d.sums (group - d.synced.0 - 1) n ∙ x.three

  set_is : (n : ℕ) → dirty_bytes_of (with_place d group n) ≡ record (dirty_bytes_of d) { sums = with_sum group n (dirty_bytes_of d).sums }
  set_is n = λ k. record { limit = d.limit; synced = d.synced.0; sums = sym (sums_from-set d x.three group n may) k }

  three-set : (n : ℕ) → three_total (list_set d.sums (group - d.synced.0 - 1) n) + sum_at d group ≡ three_total d.sums + n
  three-set n = three_total-set d.sums (group - d.synced.0 - 1) n x.three place-low

  total_of-set : (n : ℕ) → total_of (dirty_bytes_of (with_place d group n)) + sum_at d group ≡ total_of (dirty_bytes_of d) + n
  total_of-set n =
      let before : total_of (dirty_bytes_of d) ≡ three_total d.sums = total_of-three d x.three in
      let after : total_of (dirty_bytes_of (with_place d group n)) ≡ three_total (list_set d.sums (group - d.synced.0 - 1) n) = total_of-three (with_place d group n) (still_three n) in
      rw (before, after) (three-set n)

  sum_at-within : sum_at d group ≤ three_total d.sums
  sum_at-within = sum-within_three d.sums (group - d.synced.0 - 1) x.three place-low

-- a sum that is set is read back
sum_of-with : (group n : ℕ) (sums : FinMap nat_cmp ℕ) → unwrap_or (finite.get (with_sum group n sums) group) 0 ≡ n
sum_of-with group n sums = ap (λ o. unwrap_or o 0) (get-with_sum_own group n sums) ∙ unwrap_or-entry_of n

-- of the value that the fields stand for
module _ (d : Inside) (x : IsWithinLimit d) (v : DirtyBytes) (is : dirty_bytes_of d ≡ v) where
  pub sum_of-at : (group : ℕ) → MayBeUnsynced v group → sum_of v group ≡ sum_at d group
  sum_of-at group may = subst (λ w. sum_of w group ≡ sum_at d group) is (sum_of-unsynced d x.three group (subst (λ w. MayBeUnsynced w group) (sym is) may))

  pub sum_of-inside : (group : ℕ) → MayBeUnsynced (dirty_bytes_of d) group → sum_of v group ≡ sum_at d group
  sum_of-inside group may = subst (λ w. sum_of w group ≡ sum_at d group) is (sum_of-unsynced d x.three group may)

  pub sum_of-outside : (group : ℕ) → (group ≤ d.synced.0) ⊎ (d.synced.0 + 3 < group) → sum_of v group ≡ 0
  sum_of-outside group out = subst (λ w. sum_of w group ≡ 0) is (sum_of-other d x.three group out)

  pub total_of-fields : total_of v ≡ three_total d.sums
  total_of-fields = subst (λ w. total_of w ≡ three_total d.sums) is (total_of-three d x.three)

  module _ (group charge : ℕ) (may : MayBeUnsynced v group) where
    own : MayBeUnsynced (dirty_bytes_of d) group
    own = subst (λ w. MayBeUnsynced w group) (sym is) may

    changed : (n : ℕ) → dirty_bytes_of (with_place d group n) ≡ record v { sums = with_sum group n v.sums }
    changed n = subst (λ (w : DirtyBytes). dirty_bytes_of (with_place d group n) ≡ record w { sums = with_sum group n w.sums }) is (set_is d x group own n)

    total-changed : (n : ℕ) → total_of (dirty_bytes_of (with_place d group n)) + sum_at d group ≡ total_of v + n
    total-changed n = subst (λ w. total_of (dirty_bytes_of (with_place d group n)) + sum_at d group ≡ total_of w + n) is (total_of-set d x group own n)

    -- a charge that fits
    pub admitted : dirty_bytes_of (with_place d group (sum_at d group + charge)) ≡ after_admit group charge v
    admitted = rw (sum_of-at group may) (changed (sum_at d group + charge))

    pub sum-admitted : sum_of (dirty_bytes_of (with_place d group (sum_at d group + charge))) group ≡ sum_of v group + charge
    sum-admitted = ap (λ w. sum_of w group) admitted ∙ sum_of-with group (sum_of v group + charge) v.sums

    pub total-admitted : total_of (dirty_bytes_of (with_place d group (sum_at d group + charge))) ≡ total_of v + charge
    total-admitted = let set : total_of (dirty_bytes_of (with_place d group (sum_at d group + charge))) + sum_at d group ≡ total_of v + (sum_at d group + charge) = total-changed (sum_at d group + charge) in
        omega (arith, set)

    -- it is one that is not throttled
    low : is_throttled charge v ≡ false → total_of v + charge ≤ d.limit
    low fits = let seen : d.limit ≡ v.limit = ap (λ (w : DirtyBytes). w.limit) is in let fit : total_of v + charge ≤ v.limit = ltb-false v.limit (total_of v + charge) fits in omega (arith, seen, fit)

    pub within-admitted : is_throttled charge v ≡ false → IsWithinLimit (with_place d group (sum_at d group + charge))
    within-admitted fits = record {
      three = still_three d x group own (sum_at d group + charge);
      within = let set : three_total (list_set d.sums (group - d.synced.0 - 1) (sum_at d group + charge)) + sum_at d group ≡ three_total d.sums + (sum_at d group + charge) = three-set d x group own (sum_at d group + charge) in
          let total : total_of v ≡ three_total d.sums = total_of-fields in
          let limit : total_of v + charge ≤ d.limit = low fits in
          omega (arith, set, limit, total);
    }

    pub sum-within : is_throttled charge v ≡ false → sum_at d group + charge ≤ d.limit
    sum-within fits =
        let total : total_of v ≡ three_total d.sums = total_of-fields in
        let within : sum_at d group ≤ three_total d.sums = sum_at-within d x group own in
        let limit : total_of v + charge ≤ d.limit = low fits in
        omega (arith, limit, total, within)

    -- a charge that ends
    pub canceled : dirty_bytes_of (with_place d group (sum_at d group - charge)) ≡ after_cancel group charge v
    canceled = rw (sum_of-at group may) (changed (sum_at d group - charge))

    pub sum-canceled : charge ≤ sum_of v group → sum_of (dirty_bytes_of (with_place d group (sum_at d group - charge))) group + charge ≡ sum_of v group
    sum-canceled low =
        let left : sum_of (dirty_bytes_of (with_place d group (sum_at d group - charge))) group ≡ sum_of v group - charge =
        ap (λ w. sum_of w group) canceled ∙ sum_of-with group (sum_of v group - charge) v.sums in
        omega (arith, left, low)

    pub total-canceled : charge ≤ sum_of v group → total_of (dirty_bytes_of (with_place d group (sum_at d group - charge))) + charge ≡ total_of v
    total-canceled low = let set : total_of (dirty_bytes_of (with_place d group (sum_at d group - charge))) + sum_at d group ≡ total_of v + (sum_at d group - charge) = total-changed (sum_at d group - charge) in
        let sum : sum_of v group ≡ sum_at d group = sum_of-at group may in
        omega (arith, set, low, sum)

  -- the group after the synced one is synced
  module _ (group : Group) (next : group.0 ≡ v.synced + 1) where
    follows : group.0 ≡ d.synced.0 + 1
    follows = subst (λ (w : DirtyBytes). group.0 ≡ w.synced + 1) (sym is) next

    pub synced_is : dirty_bytes_of (moved_up d group) ≡ after_synced group.0 v
    synced_is = subst (λ w. dirty_bytes_of (moved_up d group) ≡ after_synced group.0 w) is
        (rw follows (λ k. record { limit = d.limit; synced = d.synced.0 + 1; sums = sym (sums_from-synced d x.three) k }))

    pub total-synced : total_of (dirty_bytes_of (moved_up d group)) + sum_of v group.0 ≡ total_of v
    total-synced =
        let above : group.0 ≡ d.synced.0 + 1 = follows in
        let seen : d.synced.0 ≡ v.synced = ap (λ (w : DirtyBytes). w.synced) is in
        let may : MayBeUnsynced v group.0 = (omega (arith, seen, above), omega (arith, seen, above)) in
        let place : group.0 - d.synced.0 - 1 ≡ 0 = omega (arith, above) in
        let before : total_of v ≡ three_total d.sums = total_of-fields in
        let after : total_of (dirty_bytes_of (moved_up d group)) ≡ get_or d.sums 1 0 + get_or d.sums 2 0 + 0 = total_of-three (moved_up d group) refl in
        let sum : sum_of v group.0 ≡ get_or d.sums 0 0 = sum_of-at group.0 may ∙ ap (λ i. get_or d.sums i 0) place in
        omega (arith, before, after, sum)
