-- LockTable locks and the parts of all numbers stay in step as a lock is granted and as one is released.
use Rattle.std.proofs.Common.{◌≡◌, ℕ, ◌<◌, ◌≤◌, ◌==◌, true, false, not, length, filter, ap, sym, subst, ◌∙◌, arith, inl, inr}
use Rattle.std.specs.Prelude.{Some, None, Option, IfSome, slice_get}
use Rattle.std.specs.List.{find}
use Rattle.std.specs.HashMap.{HashMap}
use Rattle.std.proofs.lemmas.Bool.{and_parts, cases_eq, eq-eqb, eqb-true}
use Rattle.std.proofs.lemmas.Option.{slice_get_within}
use Rattle.base.specs.declared.range.Mode.{Mode}
use Rattle.base.specs.formats.Limits.{max_locks, last_number}
use Rattle.base.specs.history.Plans.{NumberRange}
use Rattle.base.specs.steps.Locks.{Grant, is_blocked, is_range_allowed, is_reader}
use Rattle.base.proofs.common.KeptLists.{at_filter, at_last, at_old, found_at, Some-injective}
use Rattle.range_locks.specs.declared.parts.Part.{Part}
use Rattle.range_locks.specs.declared.parts.Parts.{Parts}
use Rattle.range_locks.specs.Locks.{LockTable, is_named, with_grant, without}
use Rattle.range_locks.specs.Parts.{AreAllCounted, CanRecount, change_of_grant, change_of_release, Counts, counts_of, HasCounts, IsTableOf, most_counted, parts_of, stored_part, with_lock, without_lock, writes_at}
use Rattle.range_locks.specs.Pieces.{covers_byte}
use Rattle.range_locks.proofs.Grants.{granted_are, without_are}
use Rattle.range_locks.proofs.LockCounts.{counts_small, granted_elsewhere, granted_here, is_counted, let_go_elsewhere, let_go_here, span}
use Rattle.range_locks.proofs.Writers.{find_none, writer_alone}

-- parts of counts are those of the same counts
same_counts : (parts : Option Parts) (f g : Counts) → ((k : ℕ) → f k ≡ g k) → IsTableOf parts f → IsTableOf parts g
same_counts None f g same is = λ k. ap (λ (p : Part). p.ends) (sym (same k)) ∙ is k
same_counts (Some parts) f g same is = λ k. is k ∙ ap stored_part (same k)

module _ {S : Type 0} (held : LockTable) (numbers : HashMap ℕ Parts S) (was : AreAllCounted held numbers) where
  -- the counts of a number are small
  pub numbers_small : (n : ℕ) → IfSome (parts_of numbers n) (λ (parts : Parts). HasCounts most_counted parts.table)
  numbers_small n = by (parts_of numbers n) (was.is n)
    where
      by : (o : Option Parts) → IsTableOf o (counts_of n held.locks) → IfSome o (λ (parts : Parts). HasCounts most_counted parts.table)
      by None is = tt
      by (Some parts) is = counts_small parts.table n held.locks was.are.count is

  -- where no lock comes or goes
  pub kept_counted : (new : HashMap ℕ Parts S) (number : ℕ) → IsTableOf (parts_of new number) (counts_of number held.locks)
      → ((n : ℕ) → (n ≡ number → ⊥) → parts_of new n ≡ parts_of numbers n) → AreAllCounted held new
  kept_counted new number here others = record {
    are = was.are;
    is = λ n. elim (cases_eq n number) as (λ _. IsTableOf (parts_of new n) (counts_of n held.locks)) [
      | inl same ↦ subst (λ m. IsTableOf (parts_of new m) (counts_of m held.locks)) (sym same) here
      | inr other ↦ subst (λ o. IsTableOf o (counts_of n held.locks)) (sym (others n other)) (was.is n)
    ];
  }

  pub granted_counted : (new : HashMap ℕ Parts S) (owner : ℕ) (range : NumberRange) (mode : Mode) → is_range_allowed range.low range.high ≡ true
      → is_blocked range mode held.locks ≡ false → length held.locks < max_locks → held.next ≤ last_number
      → IsTableOf (parts_of new range.number) (with_lock (span range) (change_of_grant (record { 0 = held.next }) mode) (counts_of range.number held.locks))
      → ((n : ℕ) → (n ≡ range.number → ⊥) → parts_of new n ≡ parts_of numbers n) → AreAllCounted (with_grant owner range mode held) new
  granted_counted new owner range mode allowed free few named here others = record {
    are = granted_are held was.are owner range mode allowed free few named;
    is = λ n. elim (cases_eq n range.number) as (λ _. IsTableOf (parts_of new n) (counts_of n (with_grant owner range mode held).locks)) [
      | inl same ↦ subst (λ m. IsTableOf (parts_of new m) (counts_of m (with_grant owner range mode held).locks)) (sym same) (same_counts (parts_of new range.number) _ _ (granted_here held.locks last alone) here)
      | inr other ↦ subst (λ o. IsTableOf o (counts_of n (with_grant owner range mode held).locks)) (sym (others n other)) (same_counts (parts_of numbers n) _ _ (granted_elsewhere held.locks last alone n other) (was.is n))
    ];
  }
    where
      last : Grant
      last = record { id = held.next; owner = owner; range = range; mode = mode }

      alone : (n k : ℕ) → writes_at n k last ≡ true → find (writes_at n k) held.locks ≡ None
      alone n k writes = find_none (writes_at n k) held.locks (λ i g at is.
          let there = writer_alone (with_grant owner range mode held).locks (granted_are held was.are owner range mode allowed free few named).sound n k (length held.locks) last (at_last held.locks last) writes
          i g (at_old held.locks last g i at) (and_parts (not (is_reader g.mode)) (covers_byte n k g) is).1 in
          let within : i < length held.locks = slice_get_within held.locks i g at in
          omega (arith, there))

  module _ (id owner : ℕ) (g : Grant) (found : find (is_named id owner) held.locks ≡ Some g) where
    at : (i : ℕ) × (slice_get held.locks i ≡ Some g) × (is_named id owner g ≡ true) × ((j : ℕ) (y : Grant) → j < i → slice_get held.locks j ≡ Some y → is_named id owner y ≡ false)
    at = found_at (is_named id owner) held.locks g found

    named : g.id ≡ id
    named = eqb-true g.id id (and_parts (g.id == id) (g.owner == owner) at.2).0

    pub let_go_counted : (new : HashMap ℕ Parts S) → IsTableOf (parts_of new g.range.number) (without_lock (span g.range) (change_of_release g.mode) (counts_of g.range.number held.locks))
        → ((n : ℕ) → (n ≡ g.range.number → ⊥) → parts_of new n ≡ parts_of numbers n) → AreAllCounted (without id held) new
    let_go_counted new here others = record {
      are = without_are held was.are id;
      is = λ n. elim (cases_eq n g.range.number) as (λ _. IsTableOf (parts_of new n) (counts_of n (without id held).locks)) [
        | inl same ↦ subst (λ m. IsTableOf (parts_of new m) (counts_of m (without id held).locks)) (sym same) (same_counts (parts_of new g.range.number) _ _ (let_go_here held.locks at.0 id g was.are.rising at.1 named alone) here)
        | inr other ↦ subst (λ o. IsTableOf o (counts_of n (without id held).locks)) (sym (others n other)) (same_counts (parts_of numbers n) _ _ (let_go_elsewhere held.locks at.0 id g was.are.rising at.1 named alone n other) (was.is n))
      ];
    }
      where
        alone : (n k : ℕ) → writes_at n k g ≡ true → find (writes_at n k) (filter (λ (h : Grant). not (h.id == id)) held.locks) ≡ None
        alone n k writes = find_none (writes_at n k) (filter (λ (h : Grant). not (h.id == id)) held.locks) (λ i h at_i is.
            let old = at_filter (λ (x : Grant). not (x.id == id)) held.locks i h at_i in
            let there : at.0 ≡ old.0 = writer_alone held.locks was.are.sound n k at.0 g at.1 writes old.0 h old.1 (and_parts (not (is_reader h.mode)) (covers_byte n k h) is).1 in
            let same : h ≡ g = Some-injective (sym old.1 ∙ ap (slice_get held.locks) (sym there) ∙ at.1) in
            let no_way : false ≡ true = sym (ap not (eq-eqb h.id id (ap (λ (x : Grant). x.id) same ∙ named))) ∙ old.2 in cc)

    pub found_ordered : g.range.low ≤ g.range.high
    found_ordered = let ends = was.are.allowed at.0 g at.1 in omega (arith, ends.0)

    pub found_counted : IfSome (parts_of numbers g.range.number) (λ (parts : Parts). CanRecount (span g.range) (change_of_release g.mode) parts.table)
    found_counted = by (parts_of numbers g.range.number) (was.is g.range.number)
      where
        by : (o : Option Parts) → IsTableOf o (counts_of g.range.number held.locks) → IfSome o (λ (parts : Parts). CanRecount (span g.range) (change_of_release g.mode) parts.table)
        by None is = tt
        by (Some parts) is = λ k from below. is_counted held.locks at.0 id g was.are.rising at.1 named parts.table is k from below
