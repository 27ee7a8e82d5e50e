-- What is asked of the transactions at the keys in order is asked of their admissions.
use Rattle.std.proofs.Common.{ℕ, ◌≡◌, ◌+◌, Bool, true, false, ◌||◌, List, [], ◌∷◌, length, count_by, Option, Some, None, option_map, refl, sym, ap, ◌∙◌, arith}
use Rattle.std.specs.Prelude.{◌==◌, cond, filter, is_some}
use Rattle.std.specs.List.{cons_option, find, list_all, list_any}
use Rattle.std.specs.Option.{option_copied, option_map_or}
use Rattle.std.specs.Borrow.{Bor}
use Rattle.std.proofs.lemmas.Bool.{and_parts}
use Rattle.std.proofs.lemmas.List.Sums.{sum_by-cons}
use Rattle.slab.specs.Slab.{Slab, get}
use Rattle.base.specs.declared.operation.Shape.{Shape}
use Rattle.base.specs.history.Plans.{NumberRange, is_plan_allowed, plans_overlap}
use Rattle.base.specs.steps.Groups.{Admission, hold_count}
use Rattle.base.specs.steps.Refusals.{is_plan_blocked}
use Rattle.transactions.specs.declared.«open».OpenTransaction.{OpenTransaction}
use Rattle.transactions.specs.Open.{admission_of, admissions_at, passes_at, is_of_name, is_of_group, is_of_owner, overlaps_plan_of, has_one_open, has_plan_in, is_kept_blocked, is_range_in_use, admission_of_name}
use Rattle.transactions.specs.Ranges.{has_range_in, kept_ranges_overlap}
use Rattle.transactions.proofs.KeptRanges.{overlap_same, lies_same}

-- an admission, if there is one, before others
abbrev before : Option OpenTransaction → List Admission → List Admission
before o rest = cons_option (option_map admission_of o) rest

-- tests that agree at each allowed plan
module _ (P q : Admission → Bool) (p : OpenTransaction → Bool) (same : (t : OpenTransaction) → P (admission_of t) ≡ true → p t ≡ q (admission_of t)) where
  any_step : (o : Option OpenTransaction) (rest : List Admission) (r : Bool) → (list_all P rest ≡ true → r ≡ list_any q rest) → list_all P (before o rest) ≡ true
      → (option_map_or p o false || r) ≡ list_any q (before o rest)
  any_step None rest r later all = later all
  any_step (Some t) rest r later all =
      let parts = and_parts (P (admission_of t)) (list_all P rest) all in
      λ i. same t parts.0 i || later parts.1 i

  any_at : (slots : Slab OpenTransaction) (keys : List ℕ) → list_all P (admissions_at slots keys) ≡ true → list_any (passes_at p slots) keys ≡ list_any q (admissions_at slots keys)
  any_at slots [] all = refl
  any_at slots (key ∷ keys) all = any_step (get slots key) (admissions_at slots keys) (list_any (passes_at p slots) keys) (any_at slots keys) all

abbrev has_allowed_plan : Admission → Bool
has_allowed_plan a = is_plan_allowed a.plan

module _ (slots : Slab OpenTransaction) (keys : List ℕ) (allowed : list_all has_allowed_plan (admissions_at slots keys) ≡ true) where
  pub blocked_at : (plan : List Shape) → is_plan_allowed plan ≡ true → list_any (passes_at (overlaps_plan_of plan) slots) keys ≡ is_plan_blocked plan (admissions_at slots keys)
  blocked_at plan h = any_at has_allowed_plan (λ (a : Admission). plans_overlap plan a.plan) (overlaps_plan_of plan) (λ t k. overlap_same plan t.plan h k) slots keys allowed

  pub kept_blocked_at : (plan : List Shape) → list_any (passes_at (overlaps_plan_of plan) slots) keys ≡ is_kept_blocked plan (admissions_at slots keys)
  kept_blocked_at plan = any_at has_allowed_plan (λ (a : Admission). kept_ranges_overlap plan a.plan) (overlaps_plan_of plan) (λ t k. refl) slots keys allowed

  pub in_use_at : (range : NumberRange) → list_any (passes_at (has_plan_in range) slots) keys ≡ is_range_in_use range (admissions_at slots keys)
  in_use_at range = any_at has_allowed_plan (λ (a : Admission). has_range_in range a.plan) (has_plan_in range) (λ t k. lies_same range t.plan k) slots keys allowed

  pub owned_at : (owner : ℕ) → list_any (passes_at (is_of_owner owner) slots) keys ≡ has_one_open owner (admissions_at slots keys)
  owned_at owner = any_at has_allowed_plan (λ (a : Admission). a.owner == owner) (is_of_owner owner) (λ t k. refl) slots keys allowed

-- how many are of a group
hold_step : (group : ℕ) (o : Option OpenTransaction) (rest : List Admission) (r : ℕ) → r ≡ hold_count group rest → cond (option_map_or (is_of_group group) o false) 1 0 + r ≡ hold_count group (before o rest)
hold_step group None rest r later = omega (arith, later)
hold_step group (Some t) rest r later = by (t.group.0 == group)
  where
    by : (b : Bool) → cond b 1 0 + r ≡ length (cond b (admission_of t ∷ filter (λ (a : Admission). a.group == group) rest) (filter (λ (a : Admission). a.group == group) rest))
    by true = omega (arith, later)
    by false = omega (arith, later)

pub holds_at : (group : ℕ) (slots : Slab OpenTransaction) (keys : List ℕ) → count_by (passes_at (is_of_group group) slots) keys ≡ hold_count group (admissions_at slots keys)
holds_at group slots [] = refl
holds_at group slots (key ∷ keys) =
    sum_by-cons (λ k. cond (passes_at (is_of_group group) slots k) 1 0) key keys
    ∙ hold_step group (get slots key) (admissions_at slots keys) (count_by (passes_at (is_of_group group) slots) keys) (holds_at group slots keys)

-- the transaction of a name
abbrev pub found_at : Slab OpenTransaction → Option ℕ → Option Admission
found_at slots None = None
found_at slots (Some key) = option_map admission_of (get slots key)

find_step : (tx : ℕ) (slots : Slab OpenTransaction) (key : ℕ) (o : Option OpenTransaction) (rest : List Admission) (r : Option ℕ) → get slots key ≡ o → found_at slots r ≡ admission_of_name tx rest
    → found_at slots (cond (option_map_or (is_of_name tx) o false) (Some key) r) ≡ admission_of_name tx (before o rest)
find_step tx slots key None rest r is later = later
find_step tx slots key (Some t) rest r is later = by (t.tx.0 == tx)
  where
    by : (b : Bool) → found_at slots (cond b (Some key) r) ≡ cond b (Some (admission_of t)) (admission_of_name tx rest)
    by true = ap (option_map admission_of) is
    by false = later

pub find_at : (tx : ℕ) (slots : Slab OpenTransaction) (keys : List ℕ) → found_at slots (find (passes_at (is_of_name tx) slots) keys) ≡ admission_of_name tx (admissions_at slots keys)
find_at tx slots [] = refl
find_at tx slots (key ∷ keys) = find_step tx slots key (get slots key) (admissions_at slots keys) (find (passes_at (is_of_name tx) slots) keys) refl (find_at tx slots keys)

-- if each key has a transaction there are as many admissions
length_step : (o : Option OpenTransaction) (rest : List Admission) (keys : ℕ) → is_some o ≡ true → length rest ≡ keys → length (before o rest) ≡ keys + 1
length_step None rest keys some long = absurd cc
length_step (Some t) rest keys some long = omega (arith, long)

pub length-admissions_at : (slots : Slab OpenTransaction) (keys : List ℕ) → list_all (λ key. is_some (get slots key)) keys ≡ true → length (admissions_at slots keys) ≡ length keys
length-admissions_at slots [] present = refl
length-admissions_at slots (key ∷ keys) present =
    let parts = and_parts (is_some (get slots key)) (list_all (λ k. is_some (get slots k)) keys) present in
    let more = length_step (get slots key) (admissions_at slots keys) (length keys) parts.0 (length-admissions_at slots keys parts.1) in
    omega (arith, more)

-- what a call found at a key
pub found_as : (tx : ℕ) (slots : Slab OpenTransaction) (keys order : List ℕ) (call found : Option ℕ) → order ≡ keys → call ≡ find (passes_at (is_of_name tx) slots) order → call ≡ found
    → found_at slots found ≡ admission_of_name tx (admissions_at slots keys)
found_as tx slots keys order call found same ensured was =
    ap (found_at slots) (sym was ∙ ensured ∙ ap (λ (l : List ℕ). find (passes_at (is_of_name tx) slots) l) same) ∙ find_at tx slots keys

pub seen_as : (shown : Option (Bor OpenTransaction)) → option_map (λ (t : Bor OpenTransaction). admission_of t.now) shown ≡ option_map admission_of (option_copied shown)
seen_as None = refl
seen_as (Some t) = refl

-- a key that was found passes
found_step : (test : ℕ → Bool) (k key : ℕ) (others : Option ℕ) (b : Bool) → test k ≡ b → cond b (Some k) others ≡ Some key → (others ≡ Some key → test key ≡ true) → test key ≡ true
found_step test k key others true passes here later = let same : k ≡ key = cc in ap test (sym same) ∙ passes
found_step test k key others false passes there later = later there

pub found_passes : (test : ℕ → Bool) (keys : List ℕ) (key : ℕ) → find test keys ≡ Some key → test key ≡ true
found_passes test [] key found = absurd cc
found_passes test (k ∷ keys) key found = found_step test k key (find test keys) (test k) refl found (found_passes test keys key)
