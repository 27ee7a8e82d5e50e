-- The parts of a range are counted one after another: where none begins there is nothing to count.
use Rattle.std.proofs.Common.{◌≡◌, ℕ, zero, suc, ◌+◌, ◌-◌, ◌<◌, ◌≤◌, ◌||◌, ◌&&◌, false, not, ap, sym, subst, refl, ◌∙◌, arith, inl, inr}
use Rattle.std.specs.Prelude.{Option, Some, None, IfSome, is_some, nat_lt}
use Rattle.range_locks.specs.Rows.{PartRows, part_in, PutsAt}
use Rattle.std.proofs.lemmas.Bool.{cases_lt}
use Rattle.base.specs.declared.names.LockId.{LockId}
use Rattle.base.specs.declared.range.Mode.{Mode}
use Rattle.base.specs.declared.range.Mode.TheVariants.{Reader, Writer}
use Rattle.base.specs.steps.Locks.{is_reader}
use Rattle.range_locks.specs.declared.parts.Change.{Change}
use Rattle.range_locks.specs.declared.parts.Part.{Part}
use Rattle.range_locks.specs.Parts.{blocks_part, CanRecountPart, change_of_grant, Counts, most_counted, IsFreeIn, IsTable, IsStill, stored_part, recounted, recounted_part}
use Rattle.range_locks.proofs.StoredParts.{no_end, part_here, stored_is, stored_none, stored-zero}
use Rattle.range_locks.proofs.Updates.{written, stored-some, ends-recounted_part, recounted-in, recounted-before, recounted-behind}

module _ (low : ℕ) (change : Change) where
  abbrev up_to : ℕ → Counts → Counts
  up_to offset f = recounted (record { low = low; high = offset }) change f

  -- up to a further offset, where no part begins between the two
  pub widened : (table : PartRows) (offset at : ℕ) → low ≤ offset → offset ≤ at
      → ((k : ℕ) → offset ≤ k → k < at → part_in table k ≡ None) → (f : Counts)
      → IsTable table (recounted (record { low = low; high = offset }) change f) → IsTable table (recounted (record { low = low; high = at }) change f)
  widened table offset at from within none f is j = is j ∙ elim (cases_lt j low) as (λ _. stored_part (up_to offset f j) ≡ stored_part (up_to at f j)) [
    | inl before ↦ ap stored_part (recounted-before low offset change f j before ∙ sym (recounted-before low at change f j before))
    | inr after ↦ elim (cases_lt j offset) as (λ _. stored_part (up_to offset f j) ≡ stored_part (up_to at f j)) [
      | inl below ↦ ap stored_part (recounted-in low offset change f j after below ∙ sym (recounted-in low at change f j after (omega arith)))
      | inr beyond ↦ elim (cases_lt j at) as (λ _. stored_part (up_to offset f j) ≡ stored_part (up_to at f j)) [
        | inl between ↦
            let nothing : stored_part (f j) ≡ None = sym (ap stored_part (recounted-behind low offset change f j beyond)) ∙ sym (is j) ∙ none j beyond between in
            let no_ends : (f j).ends ≡ 0 = stored_none (f j) nothing in
            ap stored_part (recounted-behind low offset change f j beyond) ∙ nothing ∙ sym (ap stored_part (recounted-in low at change f j after between) ∙ stored-zero (recounted_part change (f j)) (ends-recounted_part change (f j) ∙ no_ends))
        | inr behind ↦ ap stored_part (recounted-behind low offset change f j beyond ∙ sym (recounted-behind low at change f j behind))
      ]
    ]
  ]

  -- and past the next one
  pub counted_next : (old new : PartRows) (offset at : ℕ) (part v : Part) → low ≤ offset → offset ≤ at
      → ((k : ℕ) → offset ≤ k → k < at → part_in old k ≡ None) → part_in old at ≡ Some part
      → PutsAt at (Some v) old new → v ≡ recounted_part change part → (f : Counts)
      → IsTable old (recounted (record { low = low; high = offset }) change f) → IsTable new (recounted (record { low = low; high = at + 1 }) change f)
  counted_next old new offset at part v from within none there writes v_is f is =
      written old new at v (up_to at f) (up_to (at + 1) f) wide writes (ap is_some there) here apart
    where
      wide : IsTable old (up_to at f)
      wide = widened old offset at from within none f is

      part_is : part ≡ f at
      part_is = part_here old (up_to at f) wide at part there ∙ recounted-behind low at change f at (omega arith)

      some : 0 < (f at).ends
      some = subst (λ (p : Part). 0 < p.ends) (recounted-behind low at change f at (omega arith)) (stored_is (up_to at f at) part (sym (wide at) ∙ there)).1

      here : Some v ≡ stored_part (up_to (at + 1) f at)
      here = ap Some v_is ∙ ap (λ (p : Part). Some (recounted_part change p)) part_is
          ∙ sym (stored-some (recounted_part change (f at)) (subst (λ x. 0 < x) (sym (ends-recounted_part change (f at))) some))
          ∙ ap stored_part (sym (recounted-in low (at + 1) change f at (omega arith) (omega arith)))

      apart : (j : ℕ) → (j ≡ at → ⊥) → up_to (at + 1) f j ≡ up_to at f j
      apart j other = elim (cases_lt j at) as (λ _. up_to (at + 1) f j ≡ up_to at f j) [
        | inr behind ↦ recounted-behind low (at + 1) change f j (omega (arith, other)) ∙ sym (recounted-behind low at change f j behind)
        | inl below ↦ elim (cases_lt j low) as (λ _. up_to (at + 1) f j ≡ up_to at f j) [
          | inl before ↦ recounted-before low (at + 1) change f j before ∙ sym (recounted-before low at change f j before)
          | inr after ↦ recounted-in low (at + 1) change f j after (omega arith) ∙ sym (recounted-in low at change f j after below)
        ]
      ]

-- a range is free for a lock where its first offset is, and each part that begins in it
pub free_in : (table : PartRows) (f : Counts) (low high : ℕ) (mode : Mode) → IsTable table f → IsStill f
    → blocks_part mode (f low) ≡ false
    → ((k : ℕ) → low ≤ k → k < high → IfSome (part_in table k) (λ (p : Part). blocks_part mode p ≡ false))
    → IsFreeIn (record { low = low; high = high }) mode f
free_in table f low high mode is still first parts k from below =
    let far : low + (k - low) ≡ k = omega arith in
    subst (λ x. blocks_part mode (f x) ≡ false) far (up (k - low) (omega arith))
  where
    by : (o : Option Part) (j : ℕ) → part_in table (low + j + 1) ≡ o → IfSome o (λ (p : Part). blocks_part mode p ≡ false) → blocks_part mode (f (low + j)) ≡ false → blocks_part mode (f (low + j + 1)) ≡ false
    by (Some p) j at free before = ap (λ (q : Part). blocks_part mode q) (sym (part_here table f is (low + j + 1) p at)) ∙ free
    by None j at free before =
        let same = still.next (low + j) (no_end table f is (low + j + 1) at) in
        ap (λ w. is_some w || (nat_lt 0 (f (low + j + 1)).readers && not (is_reader mode))) same.1 ∙ ap (λ r. is_some (f (low + j)).writer || (nat_lt 0 r && not (is_reader mode))) same.0 ∙ before

    up : (d : ℕ) → low + d < high → blocks_part mode (f (low + d)) ≡ false
    up zero within = ap (λ x. blocks_part mode (f x)) (omega arith) ∙ first
    up (suc d) within =
        let next : low + suc d ≡ low + d + 1 = omega arith in
        ap (λ x. blocks_part mode (f x)) next ∙ by (part_in table (low + d + 1)) d refl (parts (low + d + 1) (omega arith) (omega arith)) (up d (omega arith))

-- one more can be counted where the counts are small
pub can_count : (table : PartRows) (f : Counts) (k : ℕ) (id : LockId) (mode : Mode) → IsTable table f → (f k).readers ≤ most_counted
    → IfSome (part_in table k) (CanRecountPart (change_of_grant id mode))
can_count table f k id mode is readers = by (part_in table k) mode refl
  where
    by : (o : Option Part) (m : Mode) → part_in table k ≡ o → IfSome o (CanRecountPart (change_of_grant id m))
    by None m at = tt
    by (Some p) Reader at = subst (λ (q : Part). q.readers ≤ most_counted) (sym (part_here table f is k p at)) readers
    by (Some p) Writer at = tt
