-- A writer's lock that is granted is in no use: no open transaction touches a byte of its range.
use Rattle.std.proofs.Common.{◌≡◌, ℕ, zero, suc, ◌+◌, ◌<◌, ◌≤◌, Bool, true, false, not, ◌&&◌, List, [], ◌∷◌, length, refl, sym, subst, ◌∙◌, arith}
use Rattle.std.specs.Prelude.{Some, nat_le, nat_lt, slice_get, ◌==◌}
use Rattle.std.specs.List.{list_all, list_any}
use Rattle.std.proofs.lemmas.Bool.{and_from, and_parts, eq-eqb, eqb-true, false≢true, false_from_ne_true, leb-true, lt-ltb, ltb-true, ne_eqb, and_right}
use Rattle.std.proofs.lemmas.Option.{slice_get_within}
use Rattle.base.specs.declared.operation.Shape.{Shape}
use Rattle.base.specs.declared.operation.Shape.TheVariants as shape
use Rattle.base.specs.declared.range.Mode.TheVariants.{Writer}
use Rattle.base.specs.formats.Limits.{max_length, object_count}
use Rattle.base.specs.history.Past.{Past}
use Rattle.base.specs.history.Plans.{NumberRange, is_shape_allowed, lies_in, overlaps, range_of}
use Rattle.base.specs.steps.Exact.{IsExact}
use Rattle.base.specs.steps.Groups.{Admission, is_committed}
use Rattle.base.specs.steps.Locks.{Grant, is_blocked, is_covered_for_writing, is_in, is_reader}
use Rattle.base.specs.steps.Shown.{Shown}
use Rattle.base.proofs.common.KeptLists.{Some-injective, any_found, any_none, at_filter, none_any, none_at}
use Rattle.base.proofs.steps.KeptLocks.{held_is}

-- whether a range of one of these transactions lies in a writer's lock, as `is_lock_in_use` has it
abbrev pub is_used_by : Grant → List Admission → Bool
is_used_by g ts = not (is_reader g.mode) && list_any (λ (a : Admission). list_any (λ x. lies_in (range_of x) g.range) a.plan) ts

all_at : {A : Type 0} (p : A → Bool) (xs : List A) (i : ℕ) (x : A) → list_all p xs ≡ true → slice_get xs i ≡ Some x → p x ≡ true
all_at p [] i x all at = absurd (none_at i x at)
all_at p (y ∷ ys) zero x all at = subst (λ z. p z ≡ true) (Some-injective at) (and_parts (p y) (list_all p ys) all).0
all_at p (y ∷ ys) (suc i) x all at = all_at p ys i x (and_parts (p y) (list_all p ys) all).1 at

-- the range of a shape that is allowed has a byte
has_byte : (x : Shape) → is_shape_allowed x ≡ true → (range_of x).low < (range_of x).high
has_byte (shape.Create n) h = omega arith
has_byte (shape.Remove n) h = omega arith
has_byte (shape.Write n offset count) h =
    let p = and_parts (nat_lt n.0 object_count && nat_lt 0 count) (nat_le (offset + count) max_length) h in
    let some : 0 < count = ltb-true 0 count (and_parts (nat_lt n.0 object_count) (nat_lt 0 count) p.0).1 in
    omega arith
has_byte (shape.SetLength n new) h = omega arith
has_byte (shape.SetName count) h = omega arith

-- two ranges in which one with a byte lies overlap
lie_in_both : (x h r : NumberRange) → x.low < x.high → lies_in x h ≡ true → lies_in x r ≡ true → overlaps h r ≡ true
lie_in_both x h r some in_h in_r =
    let p = and_parts (x.number == h.number) (nat_le h.low x.low && nat_le x.high h.high) in_h in
    let q = and_parts (x.number == r.number) (nat_le r.low x.low && nat_le x.high r.high) in_r in
    let p_ends = and_parts (nat_le h.low x.low) (nat_le x.high h.high) p.1 in
    let q_ends = and_parts (nat_le r.low x.low) (nat_le x.high r.high) q.1 in
    let low_h : h.low ≤ x.low = leb-true h.low x.low p_ends.0 in
    let high_h : x.high ≤ h.high = leb-true x.high h.high p_ends.1 in
    let low_r : r.low ≤ x.low = leb-true r.low x.low q_ends.0 in
    let high_r : x.high ≤ r.high = leb-true x.high r.high q_ends.1 in
    let number : h.number ≡ r.number = sym (eqb-true x.number h.number p.0) ∙ eqb-true x.number r.number q.0 in
    and_from (h.number == r.number) (nat_lt h.low r.high && nat_lt r.low h.high) (eq-eqb h.number r.number number)
    (and_from (nat_lt h.low r.high) (nat_lt r.low h.high) (lt-ltb h.low r.high (omega arith)) (lt-ltb r.low h.high (omega arith)))

not_and_no : (b : Bool) → not (b && false) ≡ true
not_and_no true = refl
not_and_no false = refl

module _ (s : Shown) (p : Past) (x : IsExact s p) where
  -- an open transaction is the admission of its name
  admitted_then : (i : ℕ) (a : Admission) → slice_get s.transactions i ≡ Some a → (j : ℕ) × (slice_get p.admissions j ≡ Some a)
  admitted_then i a at =
      let found = at_filter (λ (b : Admission). not (is_committed b.tx p.entries) && not (is_in b.tx p.aborted)) p.admissions i a (subst (λ ts. slice_get ts i ≡ Some a) x.groups.transactions at) in
      (found.0, found.1)

  -- no open transaction has the next name
  pub new_transaction : (i : ℕ) (a : Admission) → slice_get s.transactions i ≡ Some a → (a.tx == s.next_tx) ≡ false
  new_transaction i a at =
      let found = admitted_then i a at in
      let below : found.0 < length p.admissions = slice_get_within p.admissions found.0 a found.1 in
      let named : a.tx ≡ found.0 = x.groups.members.numbered found.0 a found.1 in
      let next : s.next_tx ≡ length p.admissions = x.groups.next in
      ne_eqb a.tx s.next_tx (λ same. absurd (omega arith))

  -- nor has a held lock
  pub below_next : (i : ℕ) (h : Grant) → slice_get s.locks i ≡ Some h → h.id < s.next_lock
  below_next i h at =
      let below : h.id < length p.grants = slice_get_within p.grants h.id h (held_is s p x.locks i h at) in
      let next : s.next_lock ≡ length p.grants = x.locks.next in
      omega arith

  module _ (range : NumberRange) (free : is_blocked range Writer s.locks ≡ false) where
    -- a range of an open transaction does not lie in one that no lock blocks
    lies_elsewhere : (i j : ℕ) (a : Admission) (y : Shape) → slice_get s.transactions i ≡ Some a → slice_get a.plan j ≡ Some y → lies_in (range_of y) range ≡ true → ⊥
    lies_elsewhere i j a y at at_j lies =
        let from = admitted_then i a at in
        let allowed = (and_parts (nat_lt 0 (length a.plan)) (list_all is_shape_allowed a.plan) (x.groups.members.allowed from.0 a from.1).0).1 in
        let some = has_byte y (all_at is_shape_allowed a.plan j y allowed at_j) in
        let covers : is_covered_for_writing a.owner (range_of y) s.locks ≡ true = all_at (λ z. is_covered_for_writing a.owner (range_of z) s.locks) a.plan j y (x.isolated.covered i a at) at_j in
        let held = any_found (λ (h : Grant). not (is_reader h.mode) && ((h.owner == a.owner) && lies_in (range_of y) h.range)) s.locks covers in
        let parts = and_parts (not (is_reader held.1.mode)) ((held.1.owner == a.owner) && lies_in (range_of y) held.1.range) held.3 in
        let in_held = (and_parts (held.1.owner == a.owner) (lies_in (range_of y) held.1.range) parts.1).1 in
        let apart = none_any (λ (h : Grant). overlaps h.range range && not (is_reader h.mode && false)) s.locks held.0 held.1 free held.2 in
        false≢true (sym apart ∙ and_from (overlaps held.1.range range) (not (is_reader held.1.mode && false)) (lie_in_both (range_of y) held.1.range range some in_held lies) (not_and_no (is_reader held.1.mode)))

    pub unused_yet : (g : Grant) → g.range ≡ range → is_used_by g s.transactions ≡ false
    unused_yet g is =
        and_right (not (is_reader g.mode)) (list_any (λ (a : Admission). list_any (λ y. lies_in (range_of y) g.range) a.plan) s.transactions)
        (any_none (λ (a : Admission). list_any (λ y. lies_in (range_of y) g.range) a.plan) s.transactions
        (λ i a at. any_none (λ y. lies_in (range_of y) g.range) a.plan
        (λ j y at_j. false_from_ne_true (lies_in (range_of y) g.range) (λ lies. lies_elsewhere i j a y at at_j (subst (λ (r : NumberRange). lies_in (range_of y) r ≡ true) is lies)))))
