-- A number has parts only if its table has some.
use Rattle.std.proofs.Common.{◌≡◌, ℕ, ◌+◌, ◌≤◌, ◌&&◌, Bool, true, false, cond, refl, ap, sym, subst, ◌∙◌, arith, inl, inr}
use Rattle.std.specs.Prelude.{nat_le, nat_lt, Option, Some, IfSome, Result, Ok, Err, IsOk, OnOk, OnErr}
use Rattle.std.proofs.lemmas.Bool.{cases_eq}
use Rattle.range_locks.specs.Rows.{PartRows}
use Rattle.base.specs.declared.range.Range.{Range}
use Rattle.base.proofs.common.KeptLists.{Some-injective}
use Rattle.range_locks.specs.declared.parts.Part.{Part}
use Rattle.range_locks.specs.declared.parts.Change.{Change}
use Rattle.range_locks.specs.declared.parts.Parts.{Parts}
use Rattle.range_locks.specs.Parts.{Counts, HasCounts, HasNoParts, HoldsFor, IsTable, most_counted, recounted, recounted_part, with_end, with_lock}
use Rattle.range_locks.proofs.StoredParts.{stored_none}
use Rattle.range_locks.proofs.Updates.{ends-recounted_part, with_end-here, with_end_covers}

-- a change of what covers an offset keeps how many locks end there
ends-recounted : (r : Range) (change : Change) (f : Counts) (k : ℕ) → (recounted r change f k).ends ≡ (f k).ends
ends-recounted r change f k = by (nat_le r.low k && nat_lt k r.high)
  where
    by : (b : Bool) → (cond b (recounted_part change (f k)) (f k)).ends ≡ (f k).ends
    by true = ends-recounted_part change (f k)
    by false = refl

module _ (old new : PartRows) (counted : HasCounts most_counted old) where
  -- with one lock more a table has parts
  pub parts_with_lock : (r : Range) (change : Change) → HoldsFor old (λ f. IsTable new (with_lock r change f)) → HasNoParts new → ⊥
  parts_with_lock r change holds none =
      let begun = with_end r.low counted.counts in
      let gone : (with_lock r change counted.counts r.low).ends ≡ 0 = stored_none (with_lock r change counted.counts r.low) (sym (holds counted.counts counted.is counted.still r.low) ∙ none r.low) in
      let same : (with_lock r change counted.counts r.low).ends ≡ (with_end r.high begun r.low).ends = ends-recounted r change (with_end r.high begun) r.low in
      let least : (begun r.low).ends ≤ (with_end r.high begun r.low).ends = (with_end_covers r.high begun r.low).2 in
      let one : (begun r.low).ends ≡ (counted.counts r.low).ends + 1 = ap (λ (p : Part). p.ends) (with_end-here r.low counted.counts) in
      omega (arith, gone, same, least, one)

  -- and as before where nothing changed
  pub parts_unchanged : (HasNoParts old → ⊥) → HoldsFor old (λ f. IsTable new f) → HasNoParts new → ⊥
  parts_unchanged some holds none = some (λ k. counted.is k ∙ sym (holds counted.counts counted.is counted.still k) ∙ none k)

  -- a table that had parts has some, whatever the answer
  pub parts_after : {A E : Type 0} (answer : Result A E) (r : Range) (change : Change) → (HasNoParts old → ⊥)
      → OnOk answer (HoldsFor old (λ f. IsTable new (with_lock r change f))) → OnErr answer (HoldsFor old (λ f. IsTable new f)) → HasNoParts new → ⊥
  parts_after (Ok x) r change some added unchanged = parts_with_lock r change added
  parts_after (Err e) r change some added unchanged = parts_unchanged some unchanged

-- so have the parts of a number that a lock is added to
pub parts_there : {A E : Type 0} (answer : Result A E) (entry new : Option Parts) (was now : Parts) (r : Range) (change : Change)
    → Some was ≡ entry → new ≡ Some now → IfSome entry (λ (parts : Parts). HasCounts most_counted parts.table)
    → ((p : Parts) → entry ≡ Some p → HasNoParts p.table → ⊥)
    → OnOk answer (HoldsFor was.table (λ f. IsTable now.table (with_lock r change f))) → OnErr answer (HoldsFor was.table (λ f. IsTable now.table f))
    → (p : Parts) → new ≡ Some p → HasNoParts p.table → ⊥
parts_there answer entry new was now r change there here counted some added unchanged p is none =
    let same : p ≡ now = Some-injective (sym is ∙ here) in
    parts_after was.table now.table (subst (λ o. IfSome o (λ (parts : Parts). HasCounts most_counted parts.table)) (sym there) counted) answer r change (some was (sym there)) added unchanged
    (subst (λ (x : Parts). HasNoParts x.table) same none)

-- each number has parts only if its table has some, where that holds of the number that changes
pub kept_parts : (old new : ℕ → Option Parts) (number : ℕ) → ((n : ℕ) → (n ≡ number → ⊥) → new n ≡ old n)
    → ((n : ℕ) (p : Parts) → old n ≡ Some p → HasNoParts p.table → ⊥)
    → ((p : Parts) → new number ≡ Some p → HasNoParts p.table → ⊥) → (n : ℕ) (p : Parts) → new n ≡ Some p → HasNoParts p.table → ⊥
kept_parts old new number others was here n p is = elim (cases_eq n number) as (λ _. HasNoParts p.table → ⊥) [
  | inl same ↦ here p (ap new (sym same) ∙ is)
  | inr other ↦ was n p (sym (others n other) ∙ is)
]

-- what a call that is answered Ok has done
pub if_answered : {A E : Type 0} (answer : Result A E) (P : Type 0) → IsOk answer → OnOk answer P → P
if_answered (Ok x) P is holds = holds
if_answered (Err e) P is holds = absurd (let no_way : false ≡ true = is in cc)
