-- A range is blocked by the held locks exactly if some offset of it is by what covers it.
use Rattle.std.proofs.Common.{◌≡◌, ℕ, zero, suc, ◌+◌, ◌<◌, ◌≤◌, ◌==◌, ◌&&◌, ◌||◌, Bool, true, false, not, cond, List, [], ◌∷◌, refl, ap, sym, ◌∙◌, arith, inl, inr}
use Rattle.std.specs.Prelude.{Some, is_some, slice_get, nat_lt, nat_le}
use Rattle.std.specs.List.{count_by}
use Rattle.std.proofs.Math.Bool.{or-true}
use Rattle.std.proofs.lemmas.Bool.{and_parts, eq-eqb, eqb-true, leb-true, le-leb, lt-ltb, ltb-true, or_cases, cases_lt, cases_Bool}
use Rattle.std.proofs.lemmas.List.Sums.{sum_by-cons}
use Rattle.base.specs.declared.range.Mode.{Mode}
use Rattle.base.specs.declared.range.Mode.TheVariants.{Reader, Writer}
use Rattle.base.specs.history.Plans.{NumberRange, overlaps}
use Rattle.base.specs.steps.Locks.{Grant, is_blocked, is_reader}
use Rattle.base.proofs.common.KeptLists.{any_at, any_found}
use Rattle.range_locks.specs.Locks.{LockTable, AreHeld, blocks}
use Rattle.range_locks.proofs.LockCounts.{any-find, found_counted, one, span}
use Rattle.range_locks.specs.Parts.{counts_of, IsBlockedIn, IsFreeIn, reads_at, writes_at}
use Rattle.range_locks.specs.Pieces.{covers_byte}

-- what is counted is there
counted_found : (p : Grant → Bool) (locks : List Grant) → 0 < count_by p locks → (i : ℕ) × (g : Grant) × (slice_get locks i ≡ Some g) × (p g ≡ true)
counted_found p [] some = absurd (omega arith)
counted_found p (x ∷ xs) some = by (counted_found p xs) (p x) refl
  where
    by : (0 < count_by p xs → (i : ℕ) × (g : Grant) × (slice_get xs i ≡ Some g) × (p g ≡ true)) → (b : Bool) → p x ≡ b → (i : ℕ) × (g : Grant) × (slice_get (x ∷ xs) i ≡ Some g) × (p g ≡ true)
    by rest true is = (zero, x, refl, is)
    by rest false is =
        let parts : count_by p (x ∷ xs) ≡ one (p x) + count_by p xs = sum_by-cons (λ (y : Grant). cond (p y) 1 0) x xs in
        let none : one (p x) ≡ 0 = ap (λ b. cond b 1 0) is in
        let found = rest (omega arith) in
        (suc found.0, found.1, found.2, found.3)

module _ (held : LockTable) (was : AreHeld held) (r : NumberRange) (some : r.low < r.high) (mode : Mode) where
  -- an offset that is covered by a lock of the other kind
  blocked_by : (k i : ℕ) (g : Grant) → r.low ≤ k → k < r.high → slice_get held.locks i ≡ Some g → covers_byte r.number k g ≡ true → not (is_reader g.mode && is_reader mode) ≡ true → is_blocked r mode held.locks ≡ true
  blocked_by k i g from below at covers apart =
      let parts = and_parts (r.number == g.range.number) (nat_le g.range.low k && nat_lt k g.range.high) covers in
      let ends = and_parts (nat_le g.range.low k) (nat_lt k g.range.high) parts.1 in
      let begins : g.range.low ≤ k = leb-true g.range.low k ends.0 in
      let within : k < g.range.high = ltb-true k g.range.high ends.1 in
      let number : (g.range.number == r.number) ≡ true = eq-eqb g.range.number r.number (sym (eqb-true r.number g.range.number parts.0)) in
      let overlap : overlaps g.range r ≡ true =
      ap (λ b. b && (nat_lt g.range.low r.high && nat_lt r.low g.range.high)) number
      ∙ ap (λ b. b && nat_lt r.low g.range.high) (lt-ltb g.range.low r.high (omega arith))
      ∙ lt-ltb r.low g.range.high (omega arith) in
      any_at (blocks r mode) held.locks i g at (ap (λ b. b && not (is_reader g.mode && is_reader mode)) overlap ∙ apart)

  pub blocked_in : IsBlockedIn (span r) mode (counts_of r.number held.locks) → is_blocked r mode held.locks ≡ true
  blocked_in b = elim (or_cases (is_some (counts_of r.number held.locks b.offset).writer) (nat_lt 0 (counts_of r.number held.locks b.offset).readers && not (is_reader mode)) b.blocks) as (λ _. is_blocked r mode held.locks ≡ true) [
    | inl writes ↦
        let found = any_found (writes_at r.number b.offset) held.locks (sym (any-find (writes_at r.number b.offset) held.locks) ∙ writes) in
        let parts = and_parts (not (is_reader found.1.mode)) (covers_byte r.number b.offset found.1) found.3 in
        blocked_by b.offset found.0 found.1 b.in_range.0 b.in_range.1 found.2 parts.1 (writer_apart found.1.mode mode parts.0)
    | inr reads ↦
        let both = and_parts (nat_lt 0 (counts_of r.number held.locks b.offset).readers) (not (is_reader mode)) reads in
        let found = counted_found (reads_at r.number b.offset) held.locks (ltb-true 0 (counts_of r.number held.locks b.offset).readers both.0) in
        let parts = and_parts (is_reader found.1.mode) (covers_byte r.number b.offset found.1) found.3 in
        blocked_by b.offset found.0 found.1 b.in_range.0 b.in_range.1 found.2 parts.1 (no_reader_apart found.1.mode mode both.1)
  ]
    where
      writer_apart : (m n : Mode) → not (is_reader m) ≡ true → not (is_reader m && is_reader n) ≡ true
      writer_apart Reader n h = absurd (let no_way : false ≡ true = h in cc)
      writer_apart Writer n h = refl

      no_reader_apart : (m n : Mode) → not (is_reader n) ≡ true → not (is_reader m && is_reader n) ≡ true
      no_reader_apart Reader n h = h
      no_reader_apart Writer n h = refl

  pub free_of : IsFreeIn (span r) mode (counts_of r.number held.locks) → is_blocked r mode held.locks ≡ false
  free_of free = elim (cases_Bool (is_blocked r mode held.locks)) as (λ _. is_blocked r mode held.locks ≡ false) [
    | inr not_blocked ↦ not_blocked
    | inl blocked ↦
        let found : (i : ℕ) × (g : Grant) × (slice_get held.locks i ≡ Some g) × (blocks r mode g ≡ true) = any_found (blocks r mode) held.locks blocked in
        absurd (contradicts found.0 found.1 found.2 found.3)
  ]
    where
      covered : (k i : ℕ) (g : Grant) → r.low ≤ k → k < r.high → slice_get held.locks i ≡ Some g → covers_byte r.number k g ≡ true → (m : Mode) → g.mode ≡ m → not (is_reader m && is_reader mode) ≡ true → ⊥
      covered k i g from below at covers Writer is apart =
          let found : is_some (counts_of r.number held.locks k).writer ≡ true = any-find (writes_at r.number k) held.locks ∙ any_at (writes_at r.number k) held.locks i g at (ap (λ m. not (is_reader m) && covers_byte r.number k g) is ∙ covers) in
          let no_way : true ≡ false = sym (ap (λ b. b || (nat_lt 0 (counts_of r.number held.locks k).readers && not (is_reader mode))) found) ∙ free k from below in cc
      covered k i g from below at covers Reader is apart =
          let counted : 0 < (counts_of r.number held.locks k).readers = found_counted (reads_at r.number k) held.locks i g at (ap (λ m. is_reader m && covers_byte r.number k g) is ∙ covers) in
          let no_way : true ≡ false = sym (ap (λ b. is_some (counts_of r.number held.locks k).writer || (b && not (is_reader mode))) (lt-ltb 0 (counts_of r.number held.locks k).readers counted) ∙ ap (λ b. is_some (counts_of r.number held.locks k).writer || b) apart ∙ or-true (is_some (counts_of r.number held.locks k).writer)) ∙ free k from below in cc

      contradicts : (i : ℕ) (g : Grant) → slice_get held.locks i ≡ Some g → blocks r mode g ≡ true → ⊥
      contradicts i g at is =
          let parts = and_parts (overlaps g.range r) (not (is_reader g.mode && is_reader mode)) is in
          let number = and_parts (g.range.number == r.number) (nat_lt g.range.low r.high && nat_lt r.low g.range.high) parts.0 in
          let ends = and_parts (nat_lt g.range.low r.high) (nat_lt r.low g.range.high) number.1 in
          let low : g.range.low < r.high = ltb-true g.range.low r.high ends.0 in
          let high : r.low < g.range.high = ltb-true r.low g.range.high ends.1 in
          let own : g.range.low < g.range.high = (was.allowed i g at).0 in
          elim (cases_lt g.range.low r.low) as (λ _. ⊥) [
            | inl before ↦ covered r.low i g (omega arith) some at (offset i g number.0 r.low (omega arith) high) g.mode refl parts.1
            | inr after ↦ covered g.range.low i g after low at (offset i g number.0 g.range.low (omega arith) own) g.mode refl parts.1
          ]
        where
          offset : (i : ℕ) (g : Grant) → (g.range.number == r.number) ≡ true → (k : ℕ) → g.range.low ≤ k → k < g.range.high → covers_byte r.number k g ≡ true
          offset i g number k from below =
              ap (λ b. b && (nat_le g.range.low k && nat_lt k g.range.high)) (eq-eqb r.number g.range.number (sym (eqb-true g.range.number r.number number)))
              ∙ ap (λ b. b && nat_lt k g.range.high) (le-leb g.range.low k from) ∙ lt-ltb k g.range.high below

-- so a range is blocked by the parts of its number exactly if it is by the held locks
pub is_blocked-found : (held : LockTable) → AreHeld held → (r : NumberRange) → r.low < r.high → (mode : Mode) (b : Bool)
    → (b ≡ true → IsBlockedIn (span r) mode (counts_of r.number held.locks))
    → (b ≡ false → IsFreeIn (span r) mode (counts_of r.number held.locks)) → b ≡ is_blocked r mode held.locks
is_blocked-found held are r some mode true yields _ = sym (blocked_in held are r some mode (yields refl))
is_blocked-found held are r some mode false _ yields = sym (free_of held are r some mode (yields refl))
