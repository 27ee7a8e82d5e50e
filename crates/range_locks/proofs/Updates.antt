-- What a write at one key, and what one more or one fewer lock, makes of what the table has.
use Rattle.std.proofs.Common.{◌≡◌, ℕ, ◌+◌, ◌-◌, ◌<◌, ◌≤◌, ◌==◌, ◌&&◌, Bool, true, false, cond, refl, ap, sym, subst, ◌∙◌, arith, inl, inr}
use Rattle.std.specs.Prelude.{Option, Some, None, IfSome, IsSome, is_some, nat_lt}
use Rattle.range_locks.specs.Rows.{PartRows, part_in, PutsAt}
use Rattle.std.proofs.lemmas.Bool.{eq-eqb, ne_eqb, cases_eq, le-leb, lt-leb, lt-ltb, le-ltb, cases_lt}
use Rattle.range_locks.specs.declared.parts.Change.{Change}
use Rattle.range_locks.specs.declared.parts.Change.TheVariants.{ReaderCame, ReaderLeft, WriterCame, WriterLeft}
use Rattle.range_locks.specs.declared.parts.Part.{Part}
use Rattle.range_locks.specs.Parts.{Counts, IsTable, IsStill, stored_part, recounted, recounted_part, with_end, without_end}
use Rattle.range_locks.proofs.StoredParts.{no_end, part_here, stored-zero}

-- a table that differs at one key is one of counts that differ at one offset
pub updated : (old new : PartRows) (k : ℕ) (w : Option Part) (f g : Counts) → IsTable old f
    → PutsAt k w old new
    → w ≡ stored_part (g k) → ((j : ℕ) → (j ≡ k → ⊥) → g j ≡ f j) → IsTable new g
updated old new k w f g is update here apart j = update j ∙ elim (cases_eq j k) as (λ _. cond (j == k) w (part_in old j) ≡ stored_part (g j)) [
  | inl same ↦ ap (λ b. cond b w (part_in old j)) (eq-eqb j k same) ∙ here ∙ ap (λ x. stored_part (g x)) (sym same)
  | inr other ↦ ap (λ b. cond b w (part_in old j)) (ne_eqb j k other) ∙ is j ∙ ap stored_part (sym (apart j other))
]

module _ (k : ℕ) (f : Counts) where
  pub with_end-here : with_end k f k ≡ record (f k) { ends = (f k).ends + 1 }
  with_end-here = ap (λ b. cond b (record (f k) { ends = (f k).ends + 1 }) (f k)) (eq-eqb k k refl)

  pub with_end-apart : (j : ℕ) → (j ≡ k → ⊥) → with_end k f j ≡ f j
  with_end-apart j apart = ap (λ b. cond b (record (f j) { ends = (f j).ends + 1 }) (f j)) (ne_eqb j k apart)

  pub without_end-here : without_end k f k ≡ record (f k) { ends = (f k).ends - 1 }
  without_end-here = ap (λ b. cond b (record (f k) { ends = (f k).ends - 1 }) (f k)) (eq-eqb k k refl)

  pub without_end-apart : (j : ℕ) → (j ≡ k → ⊥) → without_end k f j ≡ f j
  without_end-apart j apart = ap (λ b. cond b (record (f j) { ends = (f j).ends - 1 }) (f j)) (ne_eqb j k apart)

  -- an end more and then one fewer
  pub without_end-with_end : (j : ℕ) → without_end k (with_end k f) j ≡ f j
  without_end-with_end j = by (j == k)
    where
      by : (b : Bool) → cond b (record (cond b (record (f j) { ends = (f j).ends + 1 }) (f j)) { ends = (cond b (record (f j) { ends = (f j).ends + 1 }) (f j)).ends - 1 }) (cond b (record (f j) { ends = (f j).ends + 1 }) (f j)) ≡ f j
      by true = ap (λ e. record (f j) { ends = e }) (omega arith)
      by false = refl

  -- an end more leaves what covers each offset
  pub with_end_covers : (j : ℕ) → ((with_end k f j).readers ≡ (f j).readers) × ((with_end k f j).writer ≡ (f j).writer) × ((f j).ends ≤ (with_end k f j).ends) × ((with_end k f j).ends ≤ (f j).ends + 1)
  with_end_covers j = by (j == k)
    where
      by : (b : Bool) → ((cond b (record (f j) { ends = (f j).ends + 1 }) (f j)).readers ≡ (f j).readers) × ((cond b (record (f j) { ends = (f j).ends + 1 }) (f j)).writer ≡ (f j).writer) × ((f j).ends ≤ (cond b (record (f j) { ends = (f j).ends + 1 }) (f j)).ends) × ((cond b (record (f j) { ends = (f j).ends + 1 }) (f j)).ends ≤ (f j).ends + 1)
      by true = (refl, refl, omega arith, omega arith)
      by false = (refl, refl, omega arith, omega arith)

  -- and what covers changes only if a lock begins or ends
  pub with_end_still : IsStill f → IsStill (with_end k f)
  with_end_still still = record {
    first = λ none.
        let c = with_end_covers 0 in
        let was = still.first (omega (arith, c.2)) in
        (c.0 ∙ was.0, c.1 ∙ was.1);
    next = λ j none.
        let c = with_end_covers (j + 1) in
        let d = with_end_covers j in
        let was = still.next j (omega (arith, c.2)) in
        (c.0 ∙ was.0 ∙ sym d.0, c.1 ∙ was.1 ∙ sym d.1);
  }

-- a value that is written at a key
pub written : (old new : PartRows) (k : ℕ) (v : Part) (f g : Counts) → IsTable old f
    → PutsAt k (Some v) old new → IsSome (part_in old k)
    → Some v ≡ stored_part (g k) → ((j : ℕ) → (j ≡ k → ⊥) → g j ≡ f j) → IsTable new g
written old new k v f g is writes there here apart = updated old new k (Some v) f g is writes here apart

-- a part that is stored_part
pub stored-some : (p : Part) → 0 < p.ends → stored_part p ≡ Some p
stored-some p some = ap (λ b. cond b None (Some p)) (ne_eqb p.ends 0 (λ none. omega arith))

-- how many locks end at a part does not depend on what covers it
pub ends-recounted_part : (change : Change) (p : Part) → (recounted_part change p).ends ≡ p.ends
ends-recounted_part ReaderCame p = refl
ends-recounted_part ReaderLeft p = refl
ends-recounted_part (WriterCame id) p = refl
ends-recounted_part WriterLeft p = refl

module _ (low high : ℕ) (change : Change) (f : Counts) where
  pub recounted-in : (k : ℕ) → low ≤ k → k < high → recounted (record { low = low; high = high }) change f k ≡ recounted_part change (f k)
  recounted-in k from below =
      ap (λ b. cond (b && nat_lt k high) (recounted_part change (f k)) (f k)) (le-leb low k from)
      ∙ ap (λ b. cond b (recounted_part change (f k)) (f k)) (lt-ltb k high below)

  pub recounted-before : (k : ℕ) → k < low → recounted (record { low = low; high = high }) change f k ≡ f k
  recounted-before k below = ap (λ b. cond (b && nat_lt k high) (recounted_part change (f k)) (f k)) (lt-leb low k below)

  pub recounted-behind : (k : ℕ) → high ≤ k → recounted (record { low = low; high = high }) change f k ≡ f k
  recounted-behind k from = elim (cases_lt k low) as (λ _. recounted (record { low = low; high = high }) change f k ≡ f k) [
    | inl below ↦ recounted-before k below
    | inr after ↦
        ap (λ b. cond (b && nat_lt k high) (recounted_part change (f k)) (f k)) (le-leb low k after)
        ∙ ap (λ b. cond b (recounted_part change (f k)) (f k)) (le-ltb k high from)
  ]

-- what is at the other offsets
pub others_stay : (old new : PartRows) (k : ℕ) (v : Part) → PutsAt k (Some v) old new → IsSome (part_in old k)
    → (j : ℕ) → (j ≡ k → ⊥) → part_in new j ≡ part_in old j
others_stay old new k v writes there j other = writes j ∙ ap (λ b. cond b (Some v) (part_in old j)) (ne_eqb j k other)

-- an end fewer where there are others
pub end_fewer : (old new : PartRows) (k : ℕ) (p q : Part) (f : Counts) → IsTable old f
    → part_in old k ≡ Some p → 1 < p.ends → part_in old k ≡ Some q
    → PutsAt k (Some (record q { ends = p.ends - 1 })) old new → IsTable new (without_end k f)
end_fewer old new k p q f is there some there_too writes =
    let p_is : p ≡ f k = part_here old f is k p there in
    let q_is : q ≡ f k = part_here old f is k q there_too in
    let more : 1 < (f k).ends = subst (λ (x : Part). 1 < x.ends) p_is some in
    written old new k (record q { ends = p.ends - 1 }) f (without_end k f) is writes (ap is_some there)
    ((λ i. Some (record (q_is i) { ends = (p_is i).ends - 1 })) ∙ sym (ap stored_part (without_end-here k f) ∙ stored-some (record (f k) { ends = (f k).ends - 1 }) (omega arith)))
    (without_end-apart k f)

-- and where there are none
pub end_gone : (old new : PartRows) (k : ℕ) (f : Counts) → IsTable old f
    → IfSome (part_in old k) (λ (p : Part). p.ends ≤ 1)
    → PutsAt k None old new → IsTable new (without_end k f)
end_gone old new k f is few update =
    updated old new k None f (without_end k f) is update
    (sym (ap stored_part (without_end-here k f) ∙ stored-zero (record (f k) { ends = (f k).ends - 1 }) (let most : (f k).ends ≤ 1 = by (part_in old k) refl few in omega arith)))
    (without_end-apart k f)
  where
    by : (o : Option Part) → part_in old k ≡ o → IfSome o (λ (p : Part). p.ends ≤ 1) → (f k).ends ≤ 1
    by None at _ = let none : (f k).ends ≡ 0 = no_end old f is k at in omega arith
    by (Some p) at least = subst (λ (x : Part). x.ends ≤ 1) (part_here old f is k p at) least
