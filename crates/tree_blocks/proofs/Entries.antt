-- Entries of a directory's payload.
use Rattle.std.proofs.Common.{◌≡◌, ◌≢◌, ◌^◌, ℕ, ◌+◌, ◌-◌, ◌*◌, ◌≤◌, ◌<◌, ◌⊎◌, inl, inr, List, length, take, replicate, refl, ◌∙◌, ap, arith}
use Rattle.std.proofs.lemmas.List.{length-replicate, drop-replicate, take-replicate}
use Rattle.std.proofs.lemmas.Bool.{cases_lt}
use Rattle.base.specs.declared.pointer.Pointer.{Pointer}
use Rattle.base.specs.disk.Disk.{put}
use Rattle.base.specs.formats.Fields.{number_bytes, pointer_bytes, pointer_at, number_at, part, entry_in, entry_present, entry_length, entry_pointer}
use Rattle.base.proofs.disk.Put.{Apart, part-put_apart, length-put, part-part}
use Rattle.base.proofs.formats.FieldsRead.{length-number_bytes, number_at-put, number_at-put_apart, pointers_read_back, length-pointer_bytes}
use Rattle.checked_blocks.specs.Sealing.{zeros}
use Rattle.tree_blocks.proofs.EntryForms.{number-part}

same_pointer : {x y z w : ℕ} {a b : List ℕ} → x ≡ y → z ≡ w → a ≡ b → ◌≡◌ {A = Pointer} (record { address = x; birth = z; check = a }) (record { address = y; birth = w; check = b })
same_pointer e f g = rw (e, f, g) refl

-- three fields that are written one after the other
module _ (at levels size : ℕ) (p : Pointer) (bytes one two three : List ℕ) (fits : at + 64 ≤ length bytes) (long : length p.check ≡ 32)
    (e1 : one ≡ put at (number_bytes levels) bytes) (e2 : two ≡ put (at + 8) (number_bytes size) one) (e3 : three ≡ put (at + 16) (pointer_bytes p) two) where
  l1 : length one ≡ length bytes
  l1 = rw e1 (length-put at (number_bytes levels) bytes (omega (arith, length-number_bytes levels, fits)))

  l2 : length two ≡ length bytes
  l2 = rw e2 (length-put (at + 8) (number_bytes size) one (omega (arith, length-number_bytes size, l1, fits))) ∙ l1

  last : at + 16 + length (pointer_bytes p) ≤ length two
  last = omega (arith, length-pointer_bytes p long, l2, fits)

  pub entry_is_present : levels < 2 ^ 64 → entry_present (part three at 64) ≡ levels
  entry_is_present few =
      let here : at + 0 ≡ at = omega arith in
      number-part three at 64 0 (omega arith) ∙ ap (number_at three) here ∙ ap (λ (l : List ℕ). number_at l at) e3 ∙ number_at-put_apart (at + 16) (pointer_bytes p) two at last (inr (omega arith))
      ∙ ap (λ (l : List ℕ). number_at l at) e2 ∙ number_at-put_apart (at + 8) (number_bytes size) one at (omega (arith, length-number_bytes size, l1, fits)) (inr (omega arith))
      ∙ ap (λ (l : List ℕ). number_at l at) e1 ∙ number_at-put at levels bytes (omega (arith, fits)) few

  pub entry_has_length : size < 2 ^ 64 → entry_length (part three at 64) ≡ size
  entry_has_length small =
      number-part three at 64 8 (omega arith) ∙ ap (λ (l : List ℕ). number_at l (at + 8)) e3 ∙ number_at-put_apart (at + 16) (pointer_bytes p) two (at + 8) last (inr (omega arith))
      ∙ ap (λ (l : List ℕ). number_at l (at + 8)) e2 ∙ number_at-put (at + 8) size one (omega (arith, l1, fits)) small

  pub entry_has_pointer : p.address < 2 ^ 64 → p.birth < 2 ^ 64 → entry_pointer (part three at 64) ≡ p
  entry_has_pointer low born =
      let second : at + (16 + 8) ≡ at + 16 + 8 = omega arith in
      let third : at + (16 + 16) ≡ at + 16 + 16 = omega arith in
      same_pointer (number-part three at 64 16 (omega arith)) (number-part three at 64 (16 + 8) (omega arith) ∙ ap (number_at three) second)
      (part-part three at 64 (16 + 16) 32 (omega arith) ∙ ap (λ (k : ℕ). part three k 32) third)
      ∙ ap (λ (l : List ℕ). pointer_at l (at + 16)) e3 ∙ pointers_read_back (at + 16) p two (omega (arith, l2, fits)) low born long

  pub entry_apart : (place : ℕ) → Apart at 64 place 64 → part three place 64 ≡ part bytes place 64
  entry_apart place apart =
      ap (λ (l : List ℕ). part l place 64) e3 ∙ part-put_apart (at + 16) (pointer_bytes p) two place 64 last (third apart)
      ∙ ap (λ (l : List ℕ). part l place 64) e2 ∙ part-put_apart (at + 8) (number_bytes size) one place 64 (omega (arith, length-number_bytes size, l1, fits)) (second apart)
      ∙ ap (λ (l : List ℕ). part l place 64) e1 ∙ part-put_apart at (number_bytes levels) bytes place 64 (omega (arith, length-number_bytes levels, fits)) (first apart)
    where
      first : Apart at 64 place 64 → Apart at (length (number_bytes levels)) place 64
      first (inl before) = inl (omega (arith, length-number_bytes levels))
      first (inr behind) = inr behind

      second : Apart at 64 place 64 → Apart (at + 8) (length (number_bytes size)) place 64
      second (inl before) = inl (omega (arith, length-number_bytes size))
      second (inr behind) = inr (omega arith)

      third : Apart at 64 place 64 → Apart (at + 16) (length (pointer_bytes p)) place 64
      third (inl before) = inl (omega (arith, length-pointer_bytes p long))
      third (inr behind) = inr (omega arith)

pub entries_apart : (k index : ℕ) → k ≢ index → Apart (64 * index) 64 (64 * k) 64
entries_apart k index ne = go (cases_lt k index)
  where
    go : (k < index) ⊎ (index ≤ k) → Apart (64 * index) 64 (64 * k) 64
    go (inl below) = inr (omega arith)
    go (inr behind) = let after : index < k = omega (arith, ne) in inl (omega arith)

part-zeros : (n place size : ℕ) → place + size ≤ n → part (replicate n 0) place size ≡ replicate size 0
part-zeros n place size fits = ap (λ (l : List ℕ). take size l) (drop-replicate place n 0) ∙ take-replicate size (n - place) 0 (omega (arith, fits))

pub entry_in-zeros : (k : ℕ) → k < 63 → entry_in (zeros 4032) k ≡ replicate 64 0
unfolding zeros
entry_in-zeros k low = part-zeros 4032 (64 * k) 64 (omega arith)

pub length-zeros : (n : ℕ) → length (zeros n) ≡ n
unfolding zeros
length-zeros n = length-replicate n 0

-- the entries up to one more, if that one is written
pub one_entry_more : (P : ℕ → List ℕ → Type 0) (index : ℕ) (old new : List ℕ) → index < 63 → ((k : ℕ) → k < 63 → k ≢ index → entry_in new k ≡ entry_in old k)
    → ((k : ℕ) → k < index → P k (entry_in old k)) → P index (entry_in new index) → (k : ℕ) → k < index + 1 → P k (entry_in new k)
one_entry_more P index old new low others each here k below = go (cases_lt k index)
  where
    go : (k < index) ⊎ (index ≤ k) → P k (entry_in new k)
    go (inl before) = let ne : k ≢ index = λ e. omega arith in rw (others k (omega arith) ne) (each k before)
    go (inr last) = let e : k ≡ index = omega arith in rw e here
