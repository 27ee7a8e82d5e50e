-- What a fair image gives of each place that the format checks.
use Rattle.std.proofs.Common.{◌≡◌, ℕ, zero, suc, ◌<◌, Bool, true, false, ◌&&◌, List, [], ◌∷◌, refl, ap, ◌∙◌, arith}
use Rattle.std.specs.Prelude.{◌==◌, nat_lt, not}
use Rattle.std.specs.List.{list_any}
use Rattle.std.proofs.lemmas.Bool.{eq-eqb, eqb-true, lt-ltb, and_from, or_left, or_right}
use Rattle.std.proofs.lemmas.Slice.Eq.{bytes_eq-Decides}
use Rattle.base.specs.formats.Fields.{part, number_at}
use Rattle.base.specs.formats.Geometry.{block_size, block_count, block_address, config_place, slot_place}
use Rattle.base.specs.formats.Blocks.{IsSealed}
use Rattle.base.specs.formats.Uberblocks.{IsSealedSlot, slot_size}
use Rattle.base.specs.disk.Disk.{Write, HandedSince}
use Rattle.base.specs.disk.Fairness.{IsFair, passes_check, block_at, is_block_place, is_config_place, slot_at, is_slot_place, begins_with_mark, label_numbers}

-- each label is one of the four
a_label : (p : ℕ → Bool) (label : ℕ) → label < 4 → p label ≡ true → list_any p label_numbers ≡ true
a_label p zero below h = or_left (p 0) (list_any p (1 ∷ 2 ∷ 3 ∷ [])) h
a_label p (suc zero) below h = or_right (p 0) (list_any p (1 ∷ 2 ∷ 3 ∷ [])) (or_left (p 1) (list_any p (2 ∷ 3 ∷ [])) h)
a_label p (suc (suc zero)) below h = or_right (p 0) (list_any p (1 ∷ 2 ∷ 3 ∷ [])) (or_right (p 1) (list_any p (2 ∷ 3 ∷ [])) (or_left (p 2) (list_any p (3 ∷ [])) h))
a_label p (suc (suc (suc zero))) below h =
    or_right (p 0) (list_any p (1 ∷ 2 ∷ 3 ∷ [])) (or_right (p 1) (list_any p (2 ∷ 3 ∷ [])) (or_right (p 2) (list_any p (3 ∷ [])) (or_left (p 3) false h)))
a_label p (suc (suc (suc (suc k)))) below h = absurd (omega (arith, below))

block_at-block_address : (k : ℕ) → block_at (block_address k) ≡ k
block_at-block_address k = omega arith

slot_at-slot_place : (size label slot : ℕ) → slot_at size label (slot_place size label slot) ≡ slot
slot_at-slot_place size label slot = omega arith

block_place : (size k : ℕ) → k < block_count size → is_block_place size (block_address k) ≡ true
block_place size k below =
    let at : block_at (block_address k) ≡ k = block_at-block_address k in
    ap (λ (i : ℕ). nat_lt i (block_count size) && (block_address k == block_address i)) at ∙ and_from _ _ (lt-ltb k (block_count size) below) (eq-eqb (block_address k) (block_address k) refl)

slot_place_of : (size label slot : ℕ) → label < 4 → slot < 128 → is_slot_place size (slot_place size label slot) ≡ true
slot_place_of size label slot labelled below =
    a_label (λ l. nat_lt (slot_at size l (slot_place size label slot)) 128 && (slot_place size label slot == slot_place size l (slot_at size l (slot_place size label slot)))) label labelled
    (ap (λ (i : ℕ). nat_lt i 128 && (slot_place size label slot == slot_place size label i)) (slot_at-slot_place size label slot)
    ∙ and_from _ _ (lt-ltb slot 128 below) (eq-eqb (slot_place size label slot) (slot_place size label slot) refl))

-- bytes that begin with a number that is not 0
pub marked : (bytes : List ℕ) (n : ℕ) → number_at bytes 0 ≡ suc n → begins_with_mark bytes ≡ true
marked bytes n is = go (number_at bytes 0 == 0) refl
  where
    go : (b : Bool) → (number_at bytes 0 == 0) ≡ b → not b ≡ true
    go true same = absurd (let none : number_at bytes 0 ≡ 0 = eqb-true (number_at bytes 0) 0 same in omega (arith, none, is))
    go false same = refl

module _ (size t : ℕ) (writes : List Write) (image : List ℕ) (fair : IsFair (passes_check size) t writes image) where
  pub fair_block : (k : ℕ) → k < block_count size → IsSealed (part image (block_address k) block_size) → begins_with_mark (part image (block_address k) block_size) ≡ true
      → HandedSince t writes (block_address k) (part image (block_address k) block_size)
  fair_block k below sealed mark = fair (block_address k) block_size
      (or_left _ _ (and_from _ _ (or_left (is_block_place size (block_address k)) (is_config_place size (block_address k)) (block_place size k below)) (and_from _ _ ((bytes_eq-Decides _ _).1 sealed) mark)))

  pub fair_config : (label : ℕ) → label < 4 → IsSealed (part image (config_place size label) block_size) → begins_with_mark (part image (config_place size label) block_size) ≡ true
      → HandedSince t writes (config_place size label) (part image (config_place size label) block_size)
  fair_config label labelled sealed mark = fair (config_place size label) block_size
      (or_left _ _ (and_from _ _ (or_right (is_block_place size (config_place size label)) (is_config_place size (config_place size label))
      (a_label (λ l. config_place size label == config_place size l) label labelled (eq-eqb (config_place size label) (config_place size label) refl)))
      (and_from _ _ ((bytes_eq-Decides _ _).1 sealed) mark)))

  pub fair_slot : (label slot : ℕ) → label < 4 → slot < 128 → IsSealedSlot (part image (slot_place size label slot) slot_size) → begins_with_mark (part image (slot_place size label slot) slot_size) ≡ true
      → HandedSince t writes (slot_place size label slot) (part image (slot_place size label slot) slot_size)
  fair_slot label slot labelled below sealed mark = fair (slot_place size label slot) slot_size
      (and_from _ _ (slot_place_of size label slot labelled below) (and_from _ _ ((bytes_eq-Decides _ _).1 sealed) mark))
