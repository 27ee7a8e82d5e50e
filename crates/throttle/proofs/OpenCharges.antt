-- Each group is charged for its open transactions at least, as they begin and end and as groups are synced.
use Rattle.std.proofs.Common.{◌≡◌, ◌≢◌, ℕ, zero, suc, ◌+◌, ◌-◌, ◌<◌, ◌≤◌, Bool, true, false, not, cond, List, [], ◌∷◌, ◌++◌, refl, ap, sym, subst, ◌∙◌, arith, ◌⊎◌, inl, inr}
use Rattle.std.specs.Prelude.{Some, slice_get, sum_by, unwrap_or, ◌==◌}
use Rattle.std.specs.FinMap as finite
use Rattle.std.proofs.lemmas.Bool.{cases_eq, eq-eqb, ne_eqb}
use Rattle.std.proofs.lemmas.List.Sums.{sum_by-append, sum_by-cons}
use Rattle.base.specs.history.Plans.{charge_of}
use Rattle.base.specs.steps.Groups.{Admission}
use Rattle.base.specs.steps.Steps.{transactions_without}
use Rattle.base.proofs.common.KeptLists.{none_at, Some-injective}
use Rattle.throttle.specs.Blocks.{charge_in, open_charge, AreOpenOnesCharged}
use Rattle.throttle.specs.DirtyBytes.{DirtyBytes, sum_of, after_admit, after_cancel, after_synced}
use Rattle.throttle.specs.Laws.{StayCharged}
use Rattle.throttle.proofs.GroupSums.{unwrap_or-entry_of, get-with_sum_own, get-with_sum_other, get-removed_other}

charge_in-own : (a : Admission) (group : ℕ) → a.group ≡ group → charge_in group a ≡ charge_of a.plan
charge_in-own a group is = ap (λ b. cond b (charge_of a.plan) 0) (eq-eqb a.group group is)

charge_in-other : (a : Admission) (group : ℕ) → a.group ≢ group → charge_in group a ≡ 0
charge_in-other a group ne = ap (λ b. cond b (charge_of a.plan) 0) (ne_eqb a.group group ne)

module _ (group : ℕ) where
  open_charge-push : (ts : List Admission) (a : Admission) → open_charge group (ts ++ a ∷ []) ≡ open_charge group ts + charge_in group a
  open_charge-push ts a = sum_by-append (charge_in group) ts (a ∷ []) ∙ (let one : sum_by (charge_in group) (a ∷ []) ≡ charge_in group a = omega arith in ap (λ n. open_charge group ts + n) one)

  -- fewer transactions have no more charges
  no_more : (tx : ℕ) (ts : List Admission) → open_charge group (transactions_without tx ts) ≤ open_charge group ts
  no_more tx [] = omega arith
  no_more tx (t ∷ ts) = go (t.tx == tx) (no_more tx ts)
    where
      go : (b : Bool) → open_charge group (transactions_without tx ts) ≤ open_charge group ts
          → open_charge group (cond (not b) (t ∷ transactions_without tx ts) (transactions_without tx ts)) ≤ open_charge group (t ∷ ts)
      go true rest = omega (arith, rest, sum_by-cons (charge_in group) t ts)
      go false rest = omega (arith, rest, sum_by-cons (charge_in group) t ts, sum_by-cons (charge_in group) t (transactions_without tx ts))

  -- and without one of them they lack its own
  one_less : (ts : List Admission) (i : ℕ) (a : Admission) → slice_get ts i ≡ Some a → open_charge group (transactions_without a.tx ts) + charge_in group a ≤ open_charge group ts
  one_less [] i a at = absurd (none_at i a at)
  one_less (t ∷ ts) zero a at =
      let same : t ≡ a = Some-injective at in
      subst (λ (x : Admission). open_charge group (transactions_without x.tx (t ∷ ts)) + charge_in group x ≤ open_charge group (t ∷ ts)) same
      (let gone : transactions_without t.tx (t ∷ ts) ≡ transactions_without t.tx ts = rw (eq-eqb t.tx t.tx refl) refl in
      let left : open_charge group (transactions_without t.tx (t ∷ ts)) ≡ open_charge group (transactions_without t.tx ts) = ap (open_charge group) gone in
      omega (arith, left, no_more t.tx ts, sum_by-cons (charge_in group) t ts))
  one_less (t ∷ ts) (suc i) a at = go (t.tx == a.tx) (one_less ts i a at)
    where
      go : (b : Bool) → open_charge group (transactions_without a.tx ts) + charge_in group a ≤ open_charge group ts
          → open_charge group (cond (not b) (t ∷ transactions_without a.tx ts) (transactions_without a.tx ts)) + charge_in group a ≤ open_charge group (t ∷ ts)
      go true rest = omega (arith, rest, sum_by-cons (charge_in group) t ts)
      go false rest = omega (arith, rest, sum_by-cons (charge_in group) t ts, sum_by-cons (charge_in group) t (transactions_without a.tx ts))

  -- a group of which none is open has none
  none_charged : (ts : List Admission) → ((i : ℕ) (a : Admission) → slice_get ts i ≡ Some a → a.group ≢ group) → open_charge group ts ≡ 0
  none_charged [] others = refl
  none_charged (t ∷ ts) others =
      let here : charge_in group t ≡ 0 = charge_in-other t group (others 0 t refl) in
      let rest : open_charge group ts ≡ 0 = none_charged ts (λ i a at. others (suc i) a at) in
      omega (arith, here, rest, sum_by-cons (charge_in group) t ts)

module _ (ts : List Admission) (d : DirtyBytes) (are : AreOpenOnesCharged ts d) where
  sum-admitted : (group charge q : ℕ) → (q ≡ group) ⊎ (q ≢ group) → sum_of (after_admit group charge d) q ≡ sum_of d q + cond (group == q) charge 0
  sum-admitted group charge q (inl same) =
      ap (λ g. sum_of (after_admit group charge d) g) same
      ∙ ap (λ o. unwrap_or o 0) (get-with_sum_own group (sum_of d group + charge) d.sums) ∙ unwrap_or-entry_of (sum_of d group + charge)
      ∙ ap (λ g. sum_of d g + charge) (sym same) ∙ ap (λ b. sum_of d q + cond b charge 0) (sym (eq-eqb group q (sym same)))
  sum-admitted group charge q (inr apart) =
      let none : cond (group == q) charge 0 ≡ 0 = ap (λ b. cond b charge 0) (ne_eqb group q (λ e. apart (sym e))) in
      let same : sum_of (after_admit group charge d) q ≡ sum_of d q = ap (λ o. unwrap_or o 0) (get-with_sum_other group (sum_of d group + charge) d.sums q apart) in
      omega (arith, none, same)

  stay-admitted : (a : Admission) → AreOpenOnesCharged (ts ++ a ∷ []) (after_admit a.group (charge_of a.plan) d)
  stay-admitted a group =
      let sum = sum-admitted a.group (charge_of a.plan) group (cases_eq group a.group) in
      let push = open_charge-push group ts a in
      omega (arith, sum, push, are group)

  stay-ended : (tx : ℕ) → AreOpenOnesCharged (transactions_without tx ts) d
  stay-ended tx group = omega (arith, no_more group tx ts, are group)

  is_charged : (i : ℕ) (a : Admission) → slice_get ts i ≡ Some a → charge_of a.plan ≤ sum_of d a.group
  is_charged i a at =
      let own : charge_in a.group a ≡ charge_of a.plan = charge_in-own a a.group refl in
      omega (arith, own, one_less a.group ts i a at, are a.group)

  stay-canceled : (i : ℕ) (a : Admission) → slice_get ts i ≡ Some a → AreOpenOnesCharged (transactions_without a.tx ts) (after_cancel a.group (charge_of a.plan) d)
  stay-canceled i a at group = by (cases_eq group a.group)
    where
      by : (group ≡ a.group) ⊎ (group ≢ a.group) → open_charge group (transactions_without a.tx ts) ≤ sum_of (after_cancel a.group (charge_of a.plan) d) group
      by (inl same) =
          let left : sum_of (after_cancel a.group (charge_of a.plan) d) group ≡ sum_of d a.group - charge_of a.plan =
          ap (λ g. sum_of (after_cancel a.group (charge_of a.plan) d) g) same
          ∙ ap (λ o. unwrap_or o 0) (get-with_sum_own a.group (sum_of d a.group - charge_of a.plan) d.sums) ∙ unwrap_or-entry_of (sum_of d a.group - charge_of a.plan) in
          let own : charge_in group a ≡ charge_of a.plan = charge_in-own a group (sym same) in
          let there : sum_of d group ≡ sum_of d a.group = ap (sum_of d) same in
          omega (arith, left, own, there, one_less group ts i a at, are group)
      by (inr apart) =
          let stands : sum_of (after_cancel a.group (charge_of a.plan) d) group ≡ sum_of d group = ap (λ o. unwrap_or o 0) (get-with_sum_other a.group (sum_of d a.group - charge_of a.plan) d.sums group apart) in
          omega (arith, stands, no_more group a.tx ts, are group)

  stay-synced : (group : ℕ) → ((i : ℕ) (a : Admission) → slice_get ts i ≡ Some a → a.group ≢ group) → AreOpenOnesCharged ts (after_synced group d)
  stay-synced group others q = by (cases_eq q group)
    where
      by : (q ≡ group) ⊎ (q ≢ group) → open_charge q ts ≤ sum_of (after_synced group d) q
      by (inl same) = let none : open_charge q ts ≡ 0 = none_charged q ts (λ i a at e. others i a at (e ∙ same)) in omega (arith, none)
      by (inr apart) =
          let stands : sum_of (after_synced group d) q ≡ sum_of d q = ap (λ o. unwrap_or o 0) (get-removed_other d.sums group q apart) in
          omega (arith, stands, are q)

  pub stay_charged : StayCharged ts d
  stay_charged = record { admitted = stay-admitted; ended = stay-ended; charged = is_charged; canceled = stay-canceled; synced = stay-synced }
