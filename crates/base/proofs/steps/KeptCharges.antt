-- A begin, an abort and the end of a sync keep exact what each unsynced group is charged and has reserved.
use Rattle.std.proofs.Common.{◌≡◌, ℕ, ◌≢◌, zero, suc, ◌+◌, ◌-◌, ◌<◌, ◌≤◌, Bool, true, false, not, ◌&&◌, ◌||◌, List, [], ◌∷◌, ◌++◌, length, refl, ap, sym, ◌∙◌, inl, inr, arith}
use Rattle.std.specs.Prelude.{Some, None, unwrap_or, slice_get, filter, cond, sum_by, ◌==◌}
use Rattle.std.specs.List.{range_with_len}
use Rattle.std.specs.Ordering.{nat_cmp}
use Rattle.std.specs.Cmp.{unsigned_tied}
use Rattle.std.specs.FinMap as finite
use Rattle.std.specs.FinMap.{FinMap, get-insert, get-remove}
use Rattle.std.proofs.lemmas.Cmp.{nat_cmp_total}
use Rattle.std.proofs.lemmas.Bool.{cases_eq, eq-eqb, ne_eqb, or_right, false≢true}
use Rattle.std.proofs.lemmas.List.Elements.{filter-append}
use Rattle.std.proofs.lemmas.List.FromFn.{get_or-range_with_len, length-range_with_len}
use Rattle.std.proofs.lemmas.List.Sums.{sum_by-append, sum_by-cons}
use Rattle.std.proofs.lemmas.Option.{slice_get-get_or, slice_get_within}
use Rattle.std.proofs.Math.Bool.{or-false}
use Rattle.base.specs.steps.Locks.{is_in}
use Rattle.base.specs.steps.Groups.{Admission}
use Rattle.base.specs.steps.Charges.{transactions_of, with_sum}
use Rattle.base.proofs.common.KeptLists.{any_push, Some-injective}
use Rattle.base.proofs.tree.Sums.{sum_by-none, sum_by-filter, sum_by-same, sum_by-one_other}

-- what is stored for a group, which is 0 where nothing is
abbrev pub amount : FinMap nat_cmp ℕ → ℕ → ℕ
amount amounts group = unwrap_or (finite.get amounts group) 0

module _ (amounts : FinMap nat_cmp ℕ) (group value : ℕ) where
  pub amount-insert_same : amount (finite.insert amounts group value) group ≡ value
  amount-insert_same =
      ap (λ o. unwrap_or o 0) (get-insert nat_cmp_total amounts group value group)
      ∙ ap (λ b. unwrap_or (cond b (Some value) (finite.get amounts group)) 0) (unsigned_tied group group ∙ eq-eqb group group refl)

  pub amount-insert_other : (other : ℕ) → other ≢ group → amount (finite.insert amounts group value) other ≡ amount amounts other
  amount-insert_other other ne =
      ap (λ o. unwrap_or o 0) (get-insert nat_cmp_total amounts group value other)
      ∙ ap (λ b. unwrap_or (cond b (Some value) (finite.get amounts other)) 0) (unsigned_tied other group ∙ ne_eqb other group ne)

amount-remove_same : (amounts : FinMap nat_cmp ℕ) (group : ℕ) → amount (finite.remove amounts group) group ≡ 0
amount-remove_same amounts group =
    ap (λ o. unwrap_or o 0) (get-remove nat_cmp_total amounts group group)
    ∙ ap (λ b. unwrap_or (cond b None (finite.get amounts group)) 0) (unsigned_tied group group ∙ eq-eqb group group refl)

pub amount-remove_other : (amounts : FinMap nat_cmp ℕ) (group other : ℕ) → other ≢ group → amount (finite.remove amounts group) other ≡ amount amounts other
amount-remove_other amounts group other ne =
    ap (λ o. unwrap_or o 0) (get-remove nat_cmp_total amounts group other)
    ∙ ap (λ b. unwrap_or (cond b None (finite.get amounts other)) 0) (unsigned_tied other group ∙ ne_eqb other group ne)

amount-with_sum_same : (amounts : FinMap nat_cmp ℕ) (group value : ℕ) → amount (with_sum group value amounts) group ≡ value
unfolding with_sum
amount-with_sum_same amounts group zero = amount-remove_same amounts group
amount-with_sum_same amounts group (suc n) = amount-insert_same amounts group (suc n)

pub amount-with_sum_other : (amounts : FinMap nat_cmp ℕ) (group value other : ℕ) → other ≢ group → amount (with_sum group value amounts) other ≡ amount amounts other
unfolding with_sum
amount-with_sum_other amounts group zero other ne = amount-remove_other amounts group other ne
amount-with_sum_other amounts group (suc n) other ne = amount-insert_other amounts group (suc n) other ne

-- numbers in a row by their places
range-at : (low count i : ℕ) → i < count → slice_get (range_with_len low count) i ≡ Some (low + i)
range-at low count i below =
    slice_get-get_or (range_with_len low count) i 0 (let long : length (range_with_len low count) ≡ count = length-range_with_len low count in omega arith)
    ∙ ap (λ (n : ℕ). Some n) (get_or-range_with_len low count i 0 below)

pub at-range : (low count i n : ℕ) → slice_get (range_with_len low count) i ≡ Some n → (n ≡ low + i) × (i < count)
at-range low count i n at =
    let within : i < length (range_with_len low count) = slice_get_within (range_with_len low count) i n at in
    let below : i < count = (let long : length (range_with_len low count) ≡ count = length-range_with_len low count in omega arith) in
    (Some-injective (sym at ∙ range-at low count i below), below)

-- the sum over groups in a row after one of them has another amount
module _ (amounts : FinMap nat_cmp ℕ) (group value low count : ℕ) (from : low ≤ group) (to : group < low + count) where
  total-one_other : (next : FinMap nat_cmp ℕ) → amount next group ≡ value → ((other : ℕ) → other ≢ group → amount next other ≡ amount amounts other)
      → sum_by (amount next) (range_with_len low count) + amount amounts group ≡ sum_by (amount amounts) (range_with_len low count) + value
  total-one_other next own others =
      let place : slice_get (range_with_len low count) (group - low) ≡ Some group = range-at low count (group - low) (omega arith) ∙ ap (λ (n : ℕ). Some n) (let back : low + (group - low) ≡ group = omega arith in back) in
      let moved : sum_by (amount next) (range_with_len low count) + amount amounts group ≡ sum_by (amount amounts) (range_with_len low count) + amount next group =
      sum_by-one_other (amount next) (amount amounts) (range_with_len low count) (group - low) group place
      (λ i n ne at. others n (λ e. ne (let is : n ≡ low + i = (at-range low count i n at).0 in omega arith))) in
      moved ∙ ap (λ n. sum_by (amount amounts) (range_with_len low count) + n) own

  pub total-insert : sum_by (amount (finite.insert amounts group value)) (range_with_len low count) + amount amounts group ≡ sum_by (amount amounts) (range_with_len low count) + value
  total-insert = total-one_other (finite.insert amounts group value) (amount-insert_same amounts group value) (amount-insert_other amounts group value)

  pub total-with_sum : sum_by (amount (with_sum group value amounts)) (range_with_len low count) + amount amounts group ≡ sum_by (amount amounts) (range_with_len low count) + value
  total-with_sum = total-one_other (with_sum group value amounts) (amount-with_sum_same amounts group value) (amount-with_sum_other amounts group value)

-- a transaction is of a group, and was not aborted
abbrev is_counted : ℕ → List ℕ → Admission → Bool
is_counted group aborted a = (a.group == group) && not (is_in a.tx aborted)

module _ (weight : Admission → ℕ) (admissions : List Admission) (aborted : List ℕ) where
  sum-begun : (a : Admission) (group : ℕ) → is_in a.tx aborted ≡ false
      → sum_by weight (transactions_of group (admissions ++ a ∷ []) aborted) ≡ sum_by weight (transactions_of group admissions aborted) + cond (a.group == group) (weight a) 0
  sum-begun a group kept =
      ap (λ ts. sum_by weight ts) (filter-append (is_counted group aborted) admissions (a ∷ []))
      ∙ sum_by-append weight (transactions_of group admissions aborted) (filter (is_counted group aborted) (a ∷ []))
      ∙ ap (λ n. sum_by weight (transactions_of group admissions aborted) + n) (last (a.group == group) (is_in a.tx aborted) kept)
    where
      last : (b c : Bool) → c ≡ false → sum_by weight (cond (b && not c) (a ∷ []) []) ≡ cond b (weight a) 0
      last b true is = absurd (false≢true (sym is))
      last true false is = omega arith
      last false false is = refl

  sum-aborted : (a : Admission) (tx group : ℕ) → ((i : ℕ) (b : Admission) → slice_get admissions i ≡ Some b → b.tx ≡ i) → slice_get admissions tx ≡ Some a → is_in tx aborted ≡ false
      → sum_by weight (transactions_of group admissions (aborted ++ tx ∷ [])) + cond (a.group == group) (weight a) 0 ≡ sum_by weight (transactions_of group admissions aborted)
  sum-aborted a tx group numbered at kept =
      let now : sum_by weight (transactions_of group admissions (aborted ++ tx ∷ [])) ≡ sum_by after admissions = sum_by-filter (is_counted group (aborted ++ tx ∷ [])) weight admissions in
      let then : sum_by weight (transactions_of group admissions aborted) ≡ sum_by before admissions = sum_by-filter (is_counted group aborted) weight admissions in
      let moved : sum_by after admissions + before a ≡ sum_by before admissions + after a = sum_by-one_other after before admissions tx a at
      (λ i b ne at_b. ap (λ m. cond ((b.group == group) && not m) (weight b) 0) (others b.tx (λ e. ne (sym (numbered i b at_b) ∙ e)))) in
      let none : after a ≡ 0 = ap (λ m. cond ((a.group == group) && not m) (weight a) 0) gone ∙ never (a.group == group) in
      let one : before a ≡ cond (a.group == group) (weight a) 0 = ap (λ m. cond ((a.group == group) && not m) (weight a) 0) (ap (λ t. is_in t aborted) named ∙ kept) ∙ ever (a.group == group) in
      omega arith
    where
      after : Admission → ℕ
      after b = cond (is_counted group (aborted ++ tx ∷ []) b) (weight b) 0

      before : Admission → ℕ
      before b = cond (is_counted group aborted b) (weight b) 0

      named : a.tx ≡ tx
      named = numbered tx a at

      gone : is_in a.tx (aborted ++ tx ∷ []) ≡ true
      gone = any_push (λ y. a.tx == y) aborted tx ∙ or_right (is_in a.tx aborted) (a.tx == tx) (eq-eqb a.tx tx named)

      others : (t : ℕ) → t ≢ tx → is_in t (aborted ++ tx ∷ []) ≡ is_in t aborted
      others t ne = any_push (λ y. t == y) aborted tx ∙ ap (λ b. is_in t aborted || b) (ne_eqb t tx ne) ∙ or-false (is_in t aborted)

      never : (b : Bool) → cond (b && not true) (weight a) 0 ≡ 0
      never true = refl
      never false = refl

      ever : (b : Bool) → cond (b && not false) (weight a) 0 ≡ cond b (weight a) 0
      ever true = refl
      ever false = refl

-- the amounts are the sums over the transactions of each group above the synced one
abbrev pub AreSums : (Admission → ℕ) → ℕ → List Admission → List ℕ → FinMap nat_cmp ℕ → Type 0
AreSums weight synced admissions aborted amounts = (group : ℕ) → synced < group → amount amounts group ≡ sum_by weight (transactions_of group admissions aborted)

module _ (weight : Admission → ℕ) (synced : ℕ) (admissions : List Admission) (aborted : List ℕ) (amounts : FinMap nat_cmp ℕ) (sums : AreSums weight synced admissions aborted amounts) where
  -- one more transaction adds to the amount of its group
  pub begun_sums : (a : Admission) → is_in a.tx aborted ≡ false
      → AreSums weight synced (admissions ++ a ∷ []) aborted (finite.insert amounts a.group (amount amounts a.group + weight a))
  begun_sums a kept group above = elim (cases_eq group a.group)
      as (λ _. amount (finite.insert amounts a.group (amount amounts a.group + weight a)) group ≡ sum_by weight (transactions_of group (admissions ++ a ∷ []) aborted)) [
        | inl e ↦ (
            let now : amount (finite.insert amounts a.group (amount amounts a.group + weight a)) group ≡ amount amounts a.group + weight a =
            ap (λ g. amount (finite.insert amounts a.group (amount amounts a.group + weight a)) g) e ∙ amount-insert_same amounts a.group (amount amounts a.group + weight a) in
            let then : amount amounts a.group ≡ sum_by weight (transactions_of group admissions aborted) = ap (λ g. amount amounts g) (sym e) ∙ sums group above in
            let one : cond (a.group == group) (weight a) 0 ≡ weight a = ap (λ b. cond b (weight a) 0) (eq-eqb a.group group (sym e)) in
            omega (arith, sum-begun weight admissions aborted a group kept))
        | inr ne ↦ (
            let now : amount (finite.insert amounts a.group (amount amounts a.group + weight a)) group ≡ amount amounts group = amount-insert_other amounts a.group (amount amounts a.group + weight a) group ne in
            let then : amount amounts group ≡ sum_by weight (transactions_of group admissions aborted) = sums group above in
            let one : cond (a.group == group) (weight a) 0 ≡ 0 = ap (λ b. cond b (weight a) 0) (ne_eqb a.group group (λ e. ne (sym e))) in
            omega (arith, sum-begun weight admissions aborted a group kept))
      ]

  -- one that is given up takes from it
  pub aborted_sums : (a : Admission) (tx : ℕ) → ((i : ℕ) (b : Admission) → slice_get admissions i ≡ Some b → b.tx ≡ i) → slice_get admissions tx ≡ Some a → is_in tx aborted ≡ false
      → AreSums weight synced admissions (aborted ++ tx ∷ []) (with_sum a.group (amount amounts a.group - weight a) amounts)
  aborted_sums a tx numbered at kept group above = elim (cases_eq group a.group)
      as (λ _. amount (with_sum a.group (amount amounts a.group - weight a) amounts) group ≡ sum_by weight (transactions_of group admissions (aborted ++ tx ∷ []))) [
        | inl e ↦ (
            let now : amount (with_sum a.group (amount amounts a.group - weight a) amounts) group ≡ amount amounts a.group - weight a =
            ap (λ g. amount (with_sum a.group (amount amounts a.group - weight a) amounts) g) e ∙ amount-with_sum_same amounts a.group (amount amounts a.group - weight a) in
            let then : amount amounts a.group ≡ sum_by weight (transactions_of group admissions aborted) = ap (λ g. amount amounts g) (sym e) ∙ sums group above in
            let one : cond (a.group == group) (weight a) 0 ≡ weight a = ap (λ b. cond b (weight a) 0) (eq-eqb a.group group (sym e)) in
            omega (arith, sum-aborted weight admissions aborted a tx group numbered at kept))
        | inr ne ↦ (
            let now : amount (with_sum a.group (amount amounts a.group - weight a) amounts) group ≡ amount amounts group = amount-with_sum_other amounts a.group (amount amounts a.group - weight a) group ne in
            let then : amount amounts group ≡ sum_by weight (transactions_of group admissions aborted) = sums group above in
            let one : cond (a.group == group) (weight a) 0 ≡ 0 = ap (λ b. cond b (weight a) 0) (ne_eqb a.group group (λ e. ne (sym e))) in
            omega (arith, sum-aborted weight admissions aborted a tx group numbered at kept))
      ]

  -- a group that is synced has no amount any more
  pub synced_sums : (next : ℕ) → next ≡ synced + 1 → AreSums weight next admissions aborted (finite.remove amounts next)
  synced_sums next is group above = amount-remove_other amounts next group (λ e. absurd (omega arith)) ∙ sums group (omega arith)

-- one group more in a row, and the first one less
total-more : (f : ℕ → ℕ) (low count : ℕ) → sum_by f (range_with_len low (suc count)) ≡ sum_by f (range_with_len low count) + f (low + count)
total-more f low zero = let e : f (low + 0) ≡ f low = ap f (let same : low + 0 ≡ low = omega arith in same) in omega (arith, sum_by-cons f low [])
total-more f low (suc count) =
    let rest : sum_by f (range_with_len (low + 1) (suc count)) ≡ sum_by f (range_with_len (low + 1) count) + f (low + 1 + count) = total-more f (low + 1) count in
    let e : f (low + suc count) ≡ f (low + 1 + count) = ap f (let same : low + suc count ≡ low + 1 + count = omega arith in same) in
    omega (arith, sum_by-cons f low (range_with_len (low + 1) (suc count)), sum_by-cons f low (range_with_len (low + 1) count))

-- the sum over the groups above the synced one, with a new open group that has no amount
pub total-close : (amounts : FinMap nat_cmp ℕ) (synced open_group : ℕ) → synced < open_group → amount amounts (open_group + 1) ≡ 0
    → sum_by (amount amounts) (range_with_len (synced + 1) (open_group + 1 - synced)) ≡ sum_by (amount amounts) (range_with_len (synced + 1) (open_group - synced))
total-close amounts synced open_group above none =
    let longer : open_group + 1 - synced ≡ suc (open_group - synced) = omega arith in
    let last : amount amounts (synced + 1 + (open_group - synced)) ≡ 0 = ap (λ g. amount amounts g) (let same : synced + 1 + (open_group - synced) ≡ open_group + 1 = omega arith in same) ∙ none in
    ap (λ n. sum_by (amount amounts) (range_with_len (synced + 1) n)) longer ∙ total-more (amount amounts) (synced + 1) (open_group - synced)
    ∙ (let gone : sum_by (amount amounts) (range_with_len (synced + 1) (open_group - synced)) + amount amounts (synced + 1 + (open_group - synced)) ≡ sum_by (amount amounts) (range_with_len (synced + 1) (open_group - synced)) = omega arith in gone)

-- and without the group that is synced
pub total-synced : (amounts : FinMap nat_cmp ℕ) (synced group open_group : ℕ) → group ≡ synced + 1 → group < open_group
    → sum_by (amount amounts) (range_with_len (synced + 1) (open_group - synced)) ≡ amount amounts group + sum_by (amount (finite.remove amounts group)) (range_with_len (group + 1) (open_group - group))
total-synced amounts synced group open_group next below =
    let shorter : open_group - synced ≡ suc (open_group - group) = omega arith in
    ap (λ n. sum_by (amount amounts) (range_with_len (synced + 1) n)) shorter
    ∙ ap (λ g. sum_by (amount amounts) (range_with_len g (suc (open_group - group)))) (sym next)
    ∙ sum_by-cons (amount amounts) group (range_with_len (group + 1) (open_group - group))
    ∙ ap (λ n. amount amounts group + n) (sum_by-same (amount amounts) (amount (finite.remove amounts group)) (range_with_len (group + 1) (open_group - group))
    (λ i g at. sym (amount-remove_other amounts group g (λ e. let is : g ≡ group + 1 + i = (at-range (group + 1) (open_group - group) i g at).0 in absurd (omega arith)))))

-- a group above those of all admissions has no sum
pub sum-above : (weight : Admission → ℕ) (admissions : List Admission) (aborted : List ℕ) (group : ℕ) → ((i : ℕ) (a : Admission) → slice_get admissions i ≡ Some a → a.group < group)
    → sum_by weight (transactions_of group admissions aborted) ≡ 0
sum-above weight admissions aborted group below =
    sum_by-filter (is_counted group aborted) weight admissions
    ∙ sum_by-same (λ a. cond (is_counted group aborted a) (weight a) 0) (λ (a : Admission). 0) admissions
    (λ i a at. ap (λ b. cond (b && not (is_in a.tx aborted)) (weight a) 0) (ne_eqb a.group group (λ e. let lower : a.group < group = below i a at in absurd (omega arith))))
    ∙ sum_by-none (λ (a : Admission). 0) admissions (λ a. refl)

-- an amount is no less where some group has more
pub amount_more : (amounts : FinMap nat_cmp ℕ) (group more other : ℕ) → amount amounts other ≤ amount (finite.insert amounts group (amount amounts group + more)) other
amount_more amounts group more other = elim (cases_eq other group) as (λ _. amount amounts other ≤ amount (finite.insert amounts group (amount amounts group + more)) other) [
  | inl e ↦ (
      let now : amount (finite.insert amounts group (amount amounts group + more)) other ≡ amount amounts group + more =
      ap (λ g. amount (finite.insert amounts group (amount amounts group + more)) g) e ∙ amount-insert_same amounts group (amount amounts group + more) in
      let then : amount amounts other ≡ amount amounts group = ap (λ g. amount amounts g) e in
      omega arith)
  | inr ne ↦ (let now : amount (finite.insert amounts group (amount amounts group + more)) other ≡ amount amounts other = amount-insert_other amounts group (amount amounts group + more) other ne in omega arith)
]
