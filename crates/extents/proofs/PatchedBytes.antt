-- The bytes that a patch makes of an object, one by one: a write and a cut of the patch are a write and a cut of the
-- object.
use Rattle.std.proofs.Common.{◌≡◌, ℕ, ◌+◌, ◌<◌, ◌≤◌, max, List, Option, Some, None, length, get_or, refl, ap, sym, ◌∙◌, arith, ◌⊎◌, inl, inr, true, false}
use Rattle.std.specs.Prelude.{unwrap_or, is_some, nat_le, nat_lt}
use Rattle.std.proofs.lemmas.List.{ext_get_or, get_or_past}
use Rattle.std.proofs.lemmas.List.FromFn.{get_or-map-range_with_len, length-map-range_with_len}
use Rattle.std.proofs.lemmas.Bool.{cases_lt, lt-leb, le-leb, lt-ltb, le-ltb, and_right}
use Rattle.base.specs.history.Contents.{resize, bytes_after_write}
use Rattle.base.proofs.history.Writes.{length-resize, get_or-resize, length-bytes_after_write, overwritten_below, overwritten_in, overwritten_above}
use Rattle.extents.specs.Patches.{filled, written_after, written_below}

-- so many bytes are filled, and only bytes below that are written
abbrev pub WritesBelow : (ℕ → Option ℕ) → ℕ → Type 0
WritesBelow written size = (i : ℕ) → is_some (written i) ≡ true → i < size

pub length-filled : (written : ℕ → Option ℕ) (below : List ℕ) (size : ℕ) → length (filled written below size) ≡ size
length-filled written below size = length-map-range_with_len (λ i. unwrap_or (written i) (get_or below i 0)) 0 size

pub filled-in : (written : ℕ → Option ℕ) (below : List ℕ) (size k : ℕ) → k < size → get_or (filled written below size) k 0 ≡ unwrap_or (written k) (get_or below k 0)
filled-in written below size k h = get_or-map-range_with_len (λ i. unwrap_or (written i) (get_or below i 0)) 0 size k k 0 h (omega arith)

-- where nothing is written
unwritten : (o : Option ℕ) (d : ℕ) → (is_some o ≡ true → ⊥) → unwrap_or o d ≡ d
unwritten None d none = refl
unwritten (Some x) d none = absurd (none refl)

module _ (written : ℕ → Option ℕ) (below : List ℕ) (size : ℕ) (sized : WritesBelow written size) (fits : length below ≤ size) where
  -- each byte, also past the end
  pub filled-at : (k : ℕ) → get_or (filled written below size) k 0 ≡ unwrap_or (written k) (get_or below k 0)
  filled-at k = go (cases_lt k size)
    where
      go : (k < size) ⊎ (size ≤ k) → get_or (filled written below size) k 0 ≡ unwrap_or (written k) (get_or below k 0)
      go (inl l) = filled-in written below size k l
      go (inr g) =
          get_or_past (filled written below size) k 0 (rw length-filled g)
          ∙ sym (unwritten (written k) (get_or below k 0) (λ is. let l : k < size = sized k is in absurd (omega arith)) ∙ get_or_past below k 0 (omega arith))

  module _ (offset : ℕ) (new : List ℕ) where
    -- a patch after a write makes the object after that write
    pub filled-write : filled (written_after offset new written) below (max size (offset + length new)) ≡ bytes_after_write offset new (filled written below size)
    filled-write = ext_get_or 0 _ _ lengths (λ k l. by_place k (rw length-filled at l) (cases_lt k offset) (cases_lt k (offset + length new)))
      where
        lengths : length (filled (written_after offset new written) below (max size (offset + length new))) ≡ length (bytes_after_write offset new (filled written below size))
        lengths = length-filled (written_after offset new written) below (max size (offset + length new)) ∙ sym (length-bytes_after_write offset new (filled written below size) ∙ rw length-filled refl)

        by_place : (k : ℕ) → k < max size (offset + length new) → (k < offset) ⊎ (offset ≤ k) → (k < offset + length new) ⊎ (offset + length new ≤ k)
            → get_or (filled (written_after offset new written) below (max size (offset + length new))) k 0 ≡ get_or (bytes_after_write offset new (filled written below size)) k 0
        by_place k l (inl before) _ =
            filled-in (written_after offset new written) below (max size (offset + length new)) k l ∙ rw (lt-leb offset k before)
            (sym (overwritten_below offset new (filled written below size) k before ∙ filled-at k))
        by_place k l (inr from) (inl within) =
            filled-in (written_after offset new written) below (max size (offset + length new)) k l ∙ rw (le-leb offset k from, lt-ltb k (offset + length new) within)
            (sym (overwritten_in offset new (filled written below size) k from within))
        by_place k l (inr from) (inr past) =
            filled-in (written_after offset new written) below (max size (offset + length new)) k l ∙ rw (le-leb offset k from, le-ltb k (offset + length new) past)
            (sym (overwritten_above offset new (filled written below size) k past ∙ filled-at k))

  -- a patch after a cut, over what stays of the object below, makes the object with the new length
  pub filled-cut : (new : ℕ) (rest : List ℕ) → ((i : ℕ) → i < new → get_or rest i 0 ≡ get_or below i 0)
      → filled (written_below new written) rest new ≡ resize new (filled written below size)
  filled-cut new rest same = ext_get_or 0 _ _ (length-filled (written_below new written) rest new ∙ sym (length-resize new (filled written below size))) (λ k l. at k (rw length-filled at l))
    where
      at : (k : ℕ) → k < new → get_or (filled (written_below new written) rest new) k 0 ≡ get_or (resize new (filled written below size)) k 0
      at k l =
          filled-in (written_below new written) rest new k l ∙ rw (lt-ltb k new l) (ap (unwrap_or (written k)) (same k l))
          ∙ sym (get_or-resize new (filled written below size) k l ∙ filled-at k)

-- bytes of a write lie below its end, others where they lay
pub written-within : (size : ℕ) (written : ℕ → Option ℕ) → WritesBelow written size → (offset : ℕ) (new : List ℕ)
    → WritesBelow (written_after offset new written) (max size (offset + length new))
written-within size written below offset new i is = go (cases_lt i (offset + length new))
  where
    go : (i < offset + length new) ⊎ (offset + length new ≤ i) → i < max size (offset + length new)
    go (inl l) = omega arith
    go (inr g) = let h : i < size = below i (rw (and_right (nat_le offset i) (nat_lt i (offset + length new)) (le-ltb i (offset + length new) g)) at is) in omega arith

-- after a cut nothing is written
pub written-cut : (new : ℕ) (written : ℕ → Option ℕ) → WritesBelow (written_below new written) new
written-cut new written i is = go (cases_lt i new)
  where
    go : (i < new) ⊎ (new ≤ i) → i < new
    go (inl l) = l
    go (inr g) = absurd (let no_way : false ≡ true = rw (le-ltb i new g) at is in cc)

-- where nothing is written, the bytes below are filled in
pub filled_nothing : (bytes : List ℕ) → filled (λ _. None) bytes (max (length bytes) 0) ≡ bytes
filled_nothing bytes =
    let same : max (length bytes) 0 ≡ length bytes = omega arith in
    let none : ℕ → Option ℕ = λ _. None in
    rw same (ext_get_or 0 _ _ (length-filled none bytes (length bytes)) (λ k l. filled-in none bytes (length bytes) k (rw (length-filled none bytes (length bytes)) at l)))
