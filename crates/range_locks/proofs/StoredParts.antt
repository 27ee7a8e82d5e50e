-- What the table has at an offset, as it follows from how many locks begin, end and cover there.
use Rattle.std.proofs.Common.{◌≡◌, ℕ, zero, suc, ◌+◌, ◌-◌, ◌<◌, ◌≤◌, ◌==◌, Bool, true, false, cond, refl, ap, sym, ◌∙◌, arith}
use Rattle.std.specs.Prelude.{Option, Some, None}
use Rattle.range_locks.specs.Rows.{PartRows, part_in}
use Rattle.std.proofs.lemmas.Bool.{eq-eqb, eqb-true, eqb-false}
use Rattle.base.proofs.common.KeptLists.{Some-injective}
use Rattle.range_locks.specs.declared.parts.Part.{Part}
use Rattle.range_locks.specs.Parts.{Counts, IsStill, IsTable, stored_part}

-- a part that is stored_part is what is counted, and some lock begins or ends there
pub stored_is : (q p : Part) → stored_part q ≡ Some p → (p ≡ q) × (0 < q.ends)
stored_is q p h = by (q.ends == 0) refl
  where
    by : (b : Bool) → (q.ends == 0) ≡ b → (p ≡ q) × (0 < q.ends)
    by true e = absurd (let no_way : ◌≡◌ {A = Option Part} None (Some p) = sym (ap (λ b. cond b None (Some q)) e) ∙ h in cc)
    by false e = (sym (Some-injective (sym (ap (λ b. cond b None (Some q)) e) ∙ h)), let some : q.ends ≡ 0 → ⊥ = eqb-false q.ends 0 e in omega (arith, some))

pub stored_none : (q : Part) → stored_part q ≡ None → q.ends ≡ 0
stored_none q h = by (q.ends == 0) refl
  where
    by : (b : Bool) → (q.ends == 0) ≡ b → q.ends ≡ 0
    by true e = eqb-true q.ends 0 e
    by false e = absurd (let no_way : ◌≡◌ {A = Option Part} (Some q) None = sym (ap (λ b. cond b None (Some q)) e) ∙ h in cc)

pub stored-zero : (q : Part) → q.ends ≡ 0 → stored_part q ≡ None
stored-zero q h = ap (λ b. cond b None (Some q)) (eq-eqb q.ends 0 h)

-- where no lock begins or ends nothing changes
pub still_up : (f : Counts) → IsStill f → (k d : ℕ) → ((x : ℕ) → k < x → x ≤ k + d → (f x).ends ≡ 0)
    → ((f (k + d)).readers ≡ (f k).readers) × ((f (k + d)).writer ≡ (f k).writer)
still_up f still k zero none = (ap (λ x. (f x).readers) (omega arith), ap (λ x. (f x).writer) (omega arith))
still_up f still k (suc d) none =
    let before = still_up f still k d (λ x after within. none x after (omega arith)) in
    let here : k + suc d ≡ k + d + 1 = omega arith in
    let step = still.next (k + d) (none (k + d + 1) (omega arith) (omega arith)) in
    (ap (λ x. (f x).readers) here ∙ step.0 ∙ before.0, ap (λ x. (f x).writer) here ∙ step.1 ∙ before.1)

-- before the first end there is nothing
pub nothing_before : (f : Counts) → IsStill f → (at : ℕ) → ((x : ℕ) → x ≤ at → (f x).ends ≡ 0) → record { ends = 0; readers = 0; writer = None } ≡ f at
nothing_before f still at none =
    let same = still_up f still 0 at (λ x after within. none x (omega arith)) in
    let first = still.first (none 0 (omega arith)) in
    let far : 0 + at ≡ at = omega arith in
    let ends : 0 ≡ (f at).ends = sym (none at (omega arith)) in
    let readers : 0 ≡ (f at).readers = sym (sym (ap (λ x. (f x).readers) far) ∙ same.0 ∙ first.0) in
    let writer : None ≡ (f at).writer = sym (sym (ap (λ x. (f x).writer) far) ∙ same.1 ∙ first.1) in
    λ i. record { ends = ends i; readers = readers i; writer = writer i }

module _ (table : PartRows) (f : Counts) (is : IsTable table f) where
  pub part_here : (k : ℕ) (p : Part) → part_in table k ≡ Some p → p ≡ f k
  part_here k p h = (stored_is (f k) p (sym (is k) ∙ h)).0

  pub no_end : (k : ℕ) → part_in table k ≡ None → (f k).ends ≡ 0
  no_end k h = stored_none (f k) (sym (is k) ∙ h)

  module _ (still : IsStill f) (at : ℕ) where
    -- an offset after the last end has what began there
    pub part_after : (k : ℕ) (p : Part) → part_in table k ≡ Some p → k ≤ at → (k ≡ at → ⊥)
        → ((x : ℕ) → k < x → x ≤ at → part_in table x ≡ None) → record p { ends = 0 } ≡ f at
    part_after k p h below apart none =
        let there : p ≡ f k = part_here k p h in
        let far : k + (at - k) ≡ at = omega arith in
        let same = still_up f still k (at - k) (λ x after within. no_end x (none x after (omega arith))) in
        let ends : 0 ≡ (f at).ends = sym (no_end at (none at (omega (arith, apart)) (omega arith))) in
        let readers : p.readers ≡ (f at).readers = ap (λ q. q.readers) there ∙ sym same.0 ∙ ap (λ x. (f x).readers) far in
        let writer : p.writer ≡ (f at).writer = ap (λ q. q.writer) there ∙ sym same.1 ∙ ap (λ x. (f x).writer) far in
        λ i. record { ends = ends i; readers = readers i; writer = writer i }

    -- an offset before the first end has nothing
    pub part_none : ((x : ℕ) → x ≤ at → part_in table x ≡ None) → record { ends = 0; readers = 0; writer = None } ≡ f at
    part_none none = nothing_before f still at (λ x within. no_end x (none x within))
