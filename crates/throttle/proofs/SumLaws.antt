-- The total is the pool's, a cancel takes an admit back, and a charge is an entry of the map.
use Rattle.std.proofs.Common.{rules, ◌≡◌, ◌≢◌, ℕ, zero, suc, ◌+◌, ◌-◌, ◌<◌, ◌≤◌, Option, Some, None, refl, ap, ◌∙◌, arith, ◌⊎◌, inl, inr}
use Rattle.std.specs.Prelude.{sum_by, unwrap_or}
use Rattle.std.specs.List.{range_with_len}
use Rattle.std.specs.Ordering.{nat_cmp}
use Rattle.std.proofs.lemmas.Cmp.{nat_cmp_total}
use Rattle.std.proofs.lemmas.Bool.{cases_eq}
use Rattle.std.specs.FinMap as finite
use Rattle.std.specs.FinMap.{FinMap, same_map, nat_cmp-IsAntisymmetric}
use Rattle.base.specs.steps.Groups.{Line, IsLine}
use Rattle.base.specs.steps.Shown.{Shown, dirty_of, dirty_total}
use Rattle.base.specs.steps.Charges.{with_sum}
use Rattle.throttle.specs.DirtyBytes.{DirtyBytes, AreWithinLimit, sum_of, total_of, kept_sum, after_admit, after_cancel}
use Rattle.throttle.specs.Laws.{AreSumsOf}
use Rattle.throttle.proofs.GroupSums.{with_sum-some, unwrap_or-entry_of, get-with_sum_own, get-with_sum_other}

-- one to three groups are after the synced one
width : (l : Line) → IsLine l → (l.open_group - l.synced ≡ 1) ⊎ (l.open_group - l.synced ≡ 2) ⊎ (l.open_group - l.synced ≡ 3)
width l x = search rules

pub open_within : (l : Line) → IsLine l → l.open_group ≤ l.synced + 3
open_within l x = by (width l x)
  where
    by : (l.open_group - l.synced ≡ 1) ⊎ (l.open_group - l.synced ≡ 2) ⊎ (l.open_group - l.synced ≡ 3) → l.open_group ≤ l.synced + 3
    by (inl one) = omega arith
    by (inr (inl two)) = omega arith
    by (inr (inr three)) = omega arith

totals-by_width : (s : Shown) (d : DirtyBytes) (n : ℕ) → AreSumsOf s d → s.line.open_group - s.line.synced ≡ n → s.line.synced < s.line.open_group → (n ≡ 1) ⊎ (n ≡ 2) ⊎ (n ≡ 3)
    → total_of d ≡ sum_by (dirty_of s) (range_with_len (s.line.synced + 1) n)
totals-by_width s d n x width above which =
    let same : s.line.synced ≡ d.synced = x.synced in
    let first : dirty_of s (s.line.synced + 1) ≡ sum_of d (d.synced + 1) = x.dirty (s.line.synced + 1) (omega arith) ∙ ap (λ g. sum_of d (g + 1)) same in
    let second : dirty_of s (s.line.synced + 1 + 1) ≡ sum_of d (d.synced + 1 + 1) = x.dirty (s.line.synced + 1 + 1) (omega arith) ∙ ap (λ g. sum_of d (g + 1 + 1)) same in
    let third : dirty_of s (s.line.synced + 1 + 1 + 1) ≡ sum_of d (d.synced + 1 + 1 + 1) = x.dirty (s.line.synced + 1 + 1 + 1) (omega arith) ∙ ap (λ g. sum_of d (g + 1 + 1 + 1)) same in
    by which first second third
  where
    by : (n ≡ 1) ⊎ (n ≡ 2) ⊎ (n ≡ 3) → dirty_of s (s.line.synced + 1) ≡ sum_of d (d.synced + 1) → dirty_of s (s.line.synced + 1 + 1) ≡ sum_of d (d.synced + 1 + 1)
        → dirty_of s (s.line.synced + 1 + 1 + 1) ≡ sum_of d (d.synced + 1 + 1 + 1) → total_of d ≡ sum_by (dirty_of s) (range_with_len (s.line.synced + 1) n)
    by (inl one) first second third =
        let same : s.line.synced ≡ d.synced = x.synced in
        let no_second : sum_of d (d.synced + 1 + 1) ≡ 0 = x.not_open_yet (d.synced + 1 + 1) (omega (arith, one, width)) in
        let no_third : sum_of d (d.synced + 1 + 1 + 1) ≡ 0 = x.not_open_yet (d.synced + 1 + 1 + 1) (omega (arith, one, width)) in
        rw one (omega (arith, first, no_second, no_third))
    by (inr (inl two)) first second third =
        let same : s.line.synced ≡ d.synced = x.synced in
        let no_third : sum_of d (d.synced + 1 + 1 + 1) ≡ 0 = x.not_open_yet (d.synced + 1 + 1 + 1) (omega (arith, two, width)) in
        rw two (omega (arith, first, second, no_third))
    by (inr (inr three)) first second third = rw three (omega (arith, first, second, third))

pub totals_agree : (s : Shown) (d : DirtyBytes) → IsLine s.line → AreSumsOf s d → total_of d ≡ dirty_total s
totals_agree s d line x =
    let which = width s.line line in
    totals-by_width s d (s.line.open_group - s.line.synced) x refl (above which) which
  where
    above : (s.line.open_group - s.line.synced ≡ 1) ⊎ (s.line.open_group - s.line.synced ≡ 2) ⊎ (s.line.open_group - s.line.synced ≡ 3) → s.line.synced < s.line.open_group
    above (inl one) = omega arith
    above (inr (inl two)) = omega arith
    above (inr (inr three)) = omega arith

pub admits_are_entered : (d : DirtyBytes) (group charge : ℕ) → 0 < charge → after_admit group charge d ≡ record d { sums = finite.insert d.sums group (sum_of d group + charge) }
admits_are_entered d group charge some = λ k. record { limit = d.limit; synced = d.synced; sums = with_sum-some group (sum_of d group + charge) d.sums (omega arith) k }

-- the entry of a sum is what the map has, where it has no zero
entry_of-sum : (o : Option ℕ) → ((n : ℕ) → o ≡ Some n → 0 < n) → kept_sum (unwrap_or o 0) ≡ o
entry_of-sum None some = refl
entry_of-sum (Some zero) some = absurd (let no_way : 0 < 0 = some 0 refl in omega arith)
entry_of-sum (Some (suc n)) some = refl

pub cancels_undo_admits : (d : DirtyBytes) (group charge : ℕ) → AreWithinLimit d → after_cancel group charge (after_admit group charge d) ≡ d
cancels_undo_admits d group charge x = λ k. record { limit = d.limit; synced = d.synced; sums = back k }
  where
    admitted : FinMap nat_cmp ℕ
    admitted = with_sum group (sum_of d group + charge) d.sums

    left : unwrap_or (finite.get admitted group) 0 - charge ≡ sum_of d group
    left =
        let whole : unwrap_or (finite.get admitted group) 0 ≡ sum_of d group + charge =
        ap (λ o. unwrap_or o 0) (get-with_sum_own group (sum_of d group + charge) d.sums) ∙ unwrap_or-entry_of (sum_of d group + charge) in
        omega (arith, whole)

    at : (q : ℕ) → (q ≡ group) ⊎ (q ≢ group) → finite.get (with_sum group (sum_of d group) admitted) q ≡ finite.get d.sums q
    at q (inl is) = rw is (get-with_sum_own group (sum_of d group) admitted ∙ entry_of-sum (finite.get d.sums group) (λ n has. (x.unsynced group n has).1))
    at q (inr other) = get-with_sum_other group (sum_of d group) admitted q other ∙ get-with_sum_other group (sum_of d group + charge) d.sums q other

    back : with_sum group (unwrap_or (finite.get admitted group) 0 - charge) admitted ≡ d.sums
    back = ap (λ n. with_sum group n admitted) left ∙ same_map nat_cmp_total nat_cmp-IsAntisymmetric _ _ (λ q. at q (cases_eq q group))
