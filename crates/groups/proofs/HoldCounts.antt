-- How many open transactions a group has, where one begins or ends and where each is of one of two groups.
use Rattle.std.proofs.Common.{◌≡◌, ◌≢◌, ℕ, zero, suc, ◌+◌, ◌<◌, Bool, true, false, not, cond, List, [], ◌∷◌, length, refl, ap, sym, subst, ◌∙◌, arith, ◌⊎◌, inl, inr}
use Rattle.std.specs.Prelude.{Some, slice_get, filter, All, AllPairs, ◌==◌}
use Rattle.std.proofs.lemmas.Bool.{ne_eqb, eq-eqb}
use Rattle.base.specs.steps.Groups.{Admission, hold_count}
use Rattle.base.specs.steps.Steps.{transactions_without}
use Rattle.base.proofs.common.Sieves.{AllPairs-head, AllPairs-tail, filter_all}
use Rattle.base.proofs.common.KeptLists.{none_at, Some-injective, All-at}

-- whether a transaction counts for a group
abbrev pub hold_in : ℕ → Admission → ℕ
hold_in group a = cond (a.group == group) 1 0

pub hold_count-cons : (group : ℕ) (a : Admission) (ts : List Admission) → hold_count group (a ∷ ts) ≡ hold_in group a + hold_count group ts
hold_count-cons group a ts = go (a.group == group)
  where
    go : (b : Bool) → length (cond b (a ∷ filter (λ (x : Admission). x.group == group) ts) (filter (λ (x : Admission). x.group == group) ts)) ≡ cond b 1 0 + hold_count group ts
    go true = omega arith
    go false = omega arith

hold_in-own : (a : Admission) → hold_in a.group a ≡ 1
hold_in-own a = ap (λ b. cond b 1 0) (eq-eqb a.group a.group refl)

-- a group has an open transaction where one is of it
pub has_hold : (ts : List Admission) (i : ℕ) (a : Admission) → slice_get ts i ≡ Some a → 0 < hold_count a.group ts
has_hold [] i a at = absurd (none_at i a at)
has_hold (t ∷ ts) zero a at =
    let same : t ≡ a = Some-injective at in
    let whole : hold_count a.group (t ∷ ts) ≡ hold_in a.group t + hold_count a.group ts = hold_count-cons a.group t ts in
    let one : hold_in a.group t ≡ 1 = subst (λ (x : Admission). hold_in a.group x ≡ 1) (sym same) (hold_in-own a) in
    omega (arith, whole, one)
has_hold (t ∷ ts) (suc i) a at =
    let whole : hold_count a.group (t ∷ ts) ≡ hold_in a.group t + hold_count a.group ts = hold_count-cons a.group t ts in
    let below : 0 < hold_count a.group ts = has_hold ts i a at in
    omega (arith, whole, below)

-- without a transaction its group has one less, where no other has its name
pub hold_count-without : (ts : List Admission) (i : ℕ) (a : Admission) (group : ℕ) → AllPairs (λ (x y : Admission). x.tx ≢ y.tx) ts → slice_get ts i ≡ Some a
    → hold_count group ts ≡ hold_count group (transactions_without a.tx ts) + hold_in group a
hold_count-without [] i a group apart at = absurd (none_at i a at)
hold_count-without (t ∷ ts) zero a group apart at =
    let same : t ≡ a = Some-injective at in
    let others : All (λ (x : Admission). not (x.tx == t.tx) ≡ true) ts = λ k d l. ap not (ne_eqb _ _ (λ e. AllPairs-head (λ (x y : Admission). x.tx ≢ y.tx) t ts apart k d l (sym e))) in
    subst (λ (x : Admission). hold_count group (t ∷ ts) ≡ hold_count group (transactions_without x.tx (t ∷ ts)) + hold_in group x) same
    (let rest : transactions_without t.tx (t ∷ ts) ≡ ts = rw (eq-eqb t.tx t.tx refl) (filter_all (λ (x : Admission). not (x.tx == t.tx)) ts others) in
    let whole : hold_count group (t ∷ ts) ≡ hold_in group t + hold_count group ts = hold_count-cons group t ts in
    let left : hold_count group (transactions_without t.tx (t ∷ ts)) ≡ hold_count group ts = ap (hold_count group) rest in
    omega (arith, whole, left))
hold_count-without (t ∷ ts) (suc i) a group apart at =
    let other : t.tx ≢ a.tx = All-at (λ (x : Admission). t.tx ≢ x.tx) ts i a (AllPairs-head (λ (x y : Admission). x.tx ≢ y.tx) t ts apart) at in
    let rest : hold_count group ts ≡ hold_count group (transactions_without a.tx ts) + hold_in group a = hold_count-without ts i a group (AllPairs-tail (λ (x y : Admission). x.tx ≢ y.tx) t ts apart) at in
    let whole : hold_count group (t ∷ ts) ≡ hold_in group t + hold_count group ts = hold_count-cons group t ts in
    let stays : transactions_without a.tx (t ∷ ts) ≡ t ∷ transactions_without a.tx ts = rw (ne_eqb t.tx a.tx other) refl in
    let left : hold_count group (transactions_without a.tx (t ∷ ts)) ≡ hold_in group t + hold_count group (transactions_without a.tx ts) =
    ap (hold_count group) stays ∙ hold_count-cons group t (transactions_without a.tx ts) in
    omega (arith, rest, whole, left)

-- where each transaction is of one of two groups, these two have them all
pub length-of_two : (g h : ℕ) → g ≢ h → (ts : List Admission) → ((i : ℕ) (a : Admission) → slice_get ts i ≡ Some a → (a.group ≡ g) ⊎ (a.group ≡ h))
    → hold_count g ts + hold_count h ts ≡ length ts
length-of_two g h ne [] each = refl
length-of_two g h ne (t ∷ ts) each =
    let rest : hold_count g ts + hold_count h ts ≡ length ts = length-of_two g h ne ts (λ i a at. each (suc i) a at) in
    let in_g : hold_count g (t ∷ ts) ≡ hold_in g t + hold_count g ts = hold_count-cons g t ts in
    let in_h : hold_count h (t ∷ ts) ≡ hold_in h t + hold_count h ts = hold_count-cons h t ts in
    let one : hold_in g t + hold_in h t ≡ 1 = of_one (each zero t refl) in
    omega (arith, rest, in_g, in_h, one)
  where
    of_one : (t.group ≡ g) ⊎ (t.group ≡ h) → hold_in g t + hold_in h t ≡ 1
    of_one (inl is) = rw (eq-eqb t.group g is, ne_eqb t.group h (λ e. ne (sym is ∙ e))) refl
    of_one (inr is) = rw (eq-eqb t.group h is, ne_eqb t.group g (λ e. ne (sym e ∙ is))) refl
