-- What a read gives stays fair: under a write of a whole place that the format checks, refused or not, and under a
-- flush.
use Rattle.std.proofs.Common.{◌≡◌, ◌⊎◌, inl, inr, ℕ, zero, suc, ◌+◌, ◌*◌, ◌<◌, ◌≤◌, Bool, true, false, ◌&&◌, ◌||◌, List, [], ◌∷◌, length, refl, sym, ◌∙◌, ap, subst, arith}
use Rattle.std.specs.Prelude.{◌==◌, nat_lt, not}
use Rattle.std.specs.List.{list_any}
use Rattle.std.proofs.lemmas.Bool.{cases_lt, and_parts, eq-eqb, eqb-true, ltb-true, false≢true, or_cases}
use Rattle.base.specs.formats.Fields.{part, number_at}
use Rattle.base.specs.formats.Geometry.{IsGeometry, IsBlockAddress, block_size, block_count, block_address, label_place, config_place, slot_place}
use Rattle.base.specs.formats.Blocks.{is_sealed}
use Rattle.base.specs.formats.Uberblocks.{slot_size, is_sealed_slot}
use Rattle.base.specs.disk.Disk.{Moment, HandedSince, bytes_of, handed, wrote, settled, Apart}
use Rattle.base.specs.disk.Fairness.{HasFairBytes, IsCheckedPlace, passes_check, block_at, is_block_place, is_config_place, slot_at, is_slot_place, begins_with_mark, label_numbers}
use Rattle.base.proofs.disk.Put.{length-put, part-put_same, part-put_apart, apart_turned}
use Rattle.base.proofs.disk.Fairness.{fair_settled}
use Rattle.base.proofs.formats.Geometry.{IsSize, IsGeometry-IsSize, labels-apart, blocks-end}

-- a label of the four that passes a test
some_label : (p : ℕ → Bool) → list_any p label_numbers ≡ true → (label : ℕ) × (label < 4) × (p label ≡ true)
some_label p h = elim (or_cases (p 0) (list_any p (1 ∷ 2 ∷ 3 ∷ [])) h) [
  | inl at ↦ (0, omega arith, at)
  | inr more ↦ elim (or_cases (p 1) (list_any p (2 ∷ 3 ∷ [])) more) [
    | inl at ↦ (1, omega arith, at)
    | inr more ↦ elim (or_cases (p 2) (list_any p (3 ∷ [])) more) [
      | inl at ↦ (2, omega arith, at)
      | inr more ↦ elim (or_cases (p 3) false more) [ inl at ↦ (3, omega arith, at) | inr none ↦ absurd (false≢true none) ]
    ]
  ]
]

abbrev is_slot_of : ℕ → ℕ → ℕ → Bool
is_slot_of size place l = nat_lt (slot_at size l place) 128 && (place == slot_place size l (slot_at size l place))

-- What passes the test is as long as a block, at the place of a block or a config, or as a slot, at the place of one;
-- and it begins with its mark.
passes-cases : (size place n : ℕ) (bytes : List ℕ) → passes_check size place n bytes ≡ true
    → ((n ≡ block_size) × ((is_block_place size place || is_config_place size place) ≡ true) × (begins_with_mark bytes ≡ true))
    ⊎ ((n ≡ slot_size) × (is_slot_place size place ≡ true) × (begins_with_mark bytes ≡ true))
passes-cases size place n bytes passes =
    elim (or_cases ((n == block_size) && ((is_block_place size place || is_config_place size place) && (is_sealed bytes && begins_with_mark bytes))) ((n == slot_size) && (is_slot_place size place && (is_sealed_slot bytes && begins_with_mark bytes))) passes) [
      | inl whole ↦
          let parts = and_parts (n == block_size) ((is_block_place size place || is_config_place size place) && (is_sealed bytes && begins_with_mark bytes)) whole in
          let of = and_parts (is_block_place size place || is_config_place size place) (is_sealed bytes && begins_with_mark bytes) parts.1 in
          inl (eqb-true n block_size parts.0, of.0, (and_parts (is_sealed bytes) (begins_with_mark bytes) of.1).1)
      | inr slot ↦
          let parts = and_parts (n == slot_size) (is_slot_place size place && (is_sealed_slot bytes && begins_with_mark bytes)) slot in
          let of = and_parts (is_slot_place size place) (is_sealed_slot bytes && begins_with_mark bytes) parts.1 in
          inr (eqb-true n slot_size parts.0, of.0, (and_parts (is_sealed_slot bytes) (begins_with_mark bytes) of.1).1)
    ]

-- so it is a place that the format checks
pub passes-checked : (size place n : ℕ) (bytes : List ℕ) → passes_check size place n bytes ≡ true → IsCheckedPlace size place n
passes-checked size place n bytes passes =
    elim (passes-cases size place n bytes passes) [
      | inl whole ↦ inl (whole.0, of_block (or_cases (is_block_place size place) (is_config_place size place) whole.1))
      | inr slot ↦
          let label = some_label (is_slot_of size place) slot.1 in
          let at = and_parts (nat_lt (slot_at size label.0 place) 128) (place == slot_place size label.0 (slot_at size label.0 place)) label.2 in
          inr (slot.0, (label.0, slot_at size label.0 place, label.1, ltb-true (slot_at size label.0 place) 128 at.0, eqb-true place (slot_place size label.0 (slot_at size label.0 place)) at.1))
    ]
  where
    of_block : (is_block_place size place ≡ true) ⊎ (is_config_place size place ≡ true) → IsBlockAddress (block_count size) place ⊎ ((label : ℕ) × (label < 4) × (place ≡ config_place size label))
    of_block (inl block) =
        let at = and_parts (nat_lt (block_at place) (block_count size)) (place == block_address (block_at place)) block in
        inl (block_at place, ltb-true (block_at place) (block_count size) at.0, eqb-true place (block_address (block_at place)) at.1)
    of_block (inr config) =
        let label = some_label (λ l. place == config_place size l) config in
        inr (label.0, label.1, eqb-true place (config_place size label.0) label.2)

-- and begins with a number that is not 0
pub passes-marked : (size place n : ℕ) (bytes : List ℕ) → passes_check size place n bytes ≡ true → number_at bytes 0 ≡ 0 → ⊥
passes-marked size place n bytes passes zeros = elim (passes-cases size place n bytes passes) [ inl whole ↦ not_zero whole.2 | inr slot ↦ not_zero slot.2 ]
  where
    not_zero : begins_with_mark bytes ≡ true → ⊥
    not_zero is = false≢true (ap (λ (b : Bool). not b) (sym (eq-eqb (number_at bytes 0) 0 zeros)) ∙ is)

module _ (size : ℕ) (g : IsGeometry size) where
  -- a part of a label
  record IsInLabel (label offset place n : ℕ) : Type 0 where
    below : label < 4
    within : offset + n ≤ 262144
    at : place ≡ label_place size label + offset

  block_and_label : (k label offset a b n : ℕ) → k < block_count size → a ≡ block_address k → IsInLabel label offset b n → Apart a block_size b n
  block_and_label k label offset a b n below at l = go label l.below l.at (IsGeometry-IsSize size g)
    where
      go : (j : ℕ) → j < 4 → b ≡ label_place size j + offset → IsSize size → Apart a block_size b n
      go zero j_below there s = inr (omega (arith, at, there, l.within))
      go (suc zero) j_below there s = inr (omega (arith, at, there, l.within))
      go (suc (suc zero)) j_below there s = inl (omega (arith, at, there, below, blocks-end size g))
      go (suc (suc (suc j))) j_below there s = inl (omega (arith, at, there, below, blocks-end size g, s.least))

  two_labels : (j k o p a m b n : ℕ) → j < k → IsInLabel j o a m → IsInLabel k p b n → a + m ≤ b
  two_labels j k o p a m b n less x y = omega (arith, labels-apart size j k g less y.below, x.at, x.within, y.at)

  -- two parts of labels whose offsets are equal or apart
  in_labels : (j k o p a m b n : ℕ) → IsInLabel j o a m → IsInLabel k p b n → ((o ≡ p) × (m ≡ n)) ⊎ Apart o m p n → ((a ≡ b) × (m ≡ n)) ⊎ Apart a m b n
  in_labels j k o p a m b n x y offsets = elim (cases_lt j k) [
    | inl before ↦ inr (inl (two_labels j k o p a m b n before x y))
    | inr from ↦ elim (cases_lt k j) [
      | inl behind ↦ inr (inr (two_labels k j p o b n a m behind y x))
      | inr to ↦
          let same : j ≡ k = omega (arith, from, to) in
          let places : label_place size j ≡ label_place size k = ap (λ (i : ℕ). label_place size i) same in
          elim offsets as (λ _. ((a ≡ b) × (m ≡ n)) ⊎ Apart a m b n) [
            | inl equal ↦ inl (omega (arith, x.at, y.at, places, equal.0), equal.1)
            | inr (inl before) ↦ inr (inl (omega (arith, x.at, y.at, places, before)))
            | inr (inr behind) ↦ inr (inr (omega (arith, x.at, y.at, places, behind)))
          ]
    ]
  ]

  config_in : (label a m : ℕ) → label < 4 → m ≡ block_size → a ≡ config_place size label → IsInLabel label 16384 a m
  config_in label a m below long at = record { below = below; within = omega (arith, long); at = at }

  slot_in : (label slot a m : ℕ) → label < 4 → slot < 128 → m ≡ slot_size → a ≡ slot_place size label slot → IsInLabel label (131072 + 1024 * slot) a m
  slot_in label slot a m below in_array long at = record { below = below; within = omega (arith, long, in_array); at = omega (arith, at) }

  two_blocks : (i j a b m n : ℕ) → m ≡ block_size → n ≡ block_size → a ≡ block_address i → b ≡ block_address j → ((a ≡ b) × (m ≡ n)) ⊎ Apart a m b n
  two_blocks i j a b m n long as_long at there = elim (cases_lt i j) [
    | inl before ↦ inr (inl (omega (arith, before, long, at, there)))
    | inr from ↦ elim (cases_lt j i) [
      | inl behind ↦ inr (inr (omega (arith, behind, as_long, at, there)))
      | inr to ↦ inl (omega (arith, from, to, at, there), long ∙ sym as_long)
    ]
  ]

  two_slots : (i j m n : ℕ) → m ≡ slot_size → n ≡ slot_size → ((131072 + 1024 * i ≡ 131072 + 1024 * j) × (m ≡ n)) ⊎ Apart (131072 + 1024 * i) m (131072 + 1024 * j) n
  two_slots i j m n long as_long = elim (cases_lt i j) [
    | inl before ↦ inr (inl (omega (arith, before, long)))
    | inr from ↦ elim (cases_lt j i) [ inl behind ↦ inr (inr (omega (arith, behind, as_long))) | inr to ↦ inl (omega (arith, from, to), long ∙ sym as_long) ]
  ]

  -- two places that the format checks are one place or apart
  pub same_or_apart : (a m b n : ℕ) → IsCheckedPlace size a m → IsCheckedPlace size b n → ((a ≡ b) × (m ≡ n)) ⊎ Apart a m b n
  same_or_apart a m b n (inl (long, inl block)) (inl (as_long, inl other)) = two_blocks block.0 other.0 a b m n long as_long block.2 other.2
  same_or_apart a m b n (inl (long, inl block)) (inl (as_long, inr config)) =
      inr (subst (λ (k : ℕ). Apart a k b n) (sym long) (block_and_label block.0 config.0 16384 a b n block.1 block.2 (config_in config.0 b n config.1 as_long config.2)))
  same_or_apart a m b n (inl (long, inl block)) (inr (as_long, slot)) =
      inr (subst (λ (k : ℕ). Apart a k b n) (sym long) (block_and_label block.0 slot.0 (131072 + 1024 * slot.1) a b n block.1 block.2 (slot_in slot.0 slot.1 b n slot.2 slot.3 as_long slot.4)))
  same_or_apart a m b n (inl (long, inr config)) (inl (as_long, inl block)) =
      inr (apart_turned b n a m (subst (λ (k : ℕ). Apart b k a m) (sym as_long) (block_and_label block.0 config.0 16384 b a m block.1 block.2 (config_in config.0 a m config.1 long config.2))))
  same_or_apart a m b n (inl (long, inr config)) (inl (as_long, inr other)) =
      in_labels config.0 other.0 16384 16384 a m b n (config_in config.0 a m config.1 long config.2) (config_in other.0 b n other.1 as_long other.2) (inl (refl, long ∙ sym as_long))
  same_or_apart a m b n (inl (long, inr config)) (inr (as_long, slot)) =
      in_labels config.0 slot.0 16384 (131072 + 1024 * slot.1) a m b n (config_in config.0 a m config.1 long config.2) (slot_in slot.0 slot.1 b n slot.2 slot.3 as_long slot.4) (inr (inl (omega (arith, long))))
  same_or_apart a m b n (inr (long, slot)) (inl (as_long, inl block)) =
      inr (apart_turned b n a m (subst (λ (k : ℕ). Apart b k a m) (sym as_long) (block_and_label block.0 slot.0 (131072 + 1024 * slot.1) b a m block.1 block.2 (slot_in slot.0 slot.1 a m slot.2 slot.3 long slot.4))))
  same_or_apart a m b n (inr (long, slot)) (inl (as_long, inr config)) =
      in_labels slot.0 config.0 (131072 + 1024 * slot.1) 16384 a m b n (slot_in slot.0 slot.1 a m slot.2 slot.3 long slot.4) (config_in config.0 b n config.1 as_long config.2) (inr (inr (omega (arith, as_long))))
  same_or_apart a m b n (inr (long, slot)) (inr (as_long, other)) =
      in_labels slot.0 other.0 (131072 + 1024 * slot.1) (131072 + 1024 * other.1) a m b n (slot_in slot.0 slot.1 a m slot.2 slot.3 long slot.4) (slot_in other.0 other.1 b n other.2 other.3 as_long other.4)
      (two_slots slot.1 other.1 m n long as_long)

  -- a write of a whole place, whatever it answers
  pub fair_bytes_wrote : (t moment place : ℕ) (content : List ℕ) (done : Bool) (m : Moment) → t ≤ moment → IsCheckedPlace size place (length content) → place + length content ≤ size
      → HasFairBytes size t m → HasFairBytes size t (wrote moment place content done m)
  fair_bytes_wrote t moment place content done m since whole within fair = go done
    where
      fits : place + length content ≤ length (bytes_of m)
      fits = let long : length (bytes_of m) ≡ size = fair.size_is in omega (arith, long, within)

      after : Bool → Moment
      after d = wrote moment place content d m

      by_place : (p n : ℕ) → passes_check size p n (part (bytes_of (after true)) p n) ≡ true → ((place ≡ p) × (length content ≡ n)) ⊎ Apart place (length content) p n
          → HandedSince t (handed (after true)) p (part (bytes_of (after true)) p n)
      by_place p n passes (inl (here, long)) =
          let stands : part (bytes_of (after true)) place (length content) ≡ content = part-put_same place content (bytes_of m) fits in
          inl (since, here, sym stands ∙ ap (λ (k : ℕ). part (bytes_of (after true)) k (length content)) here ∙ ap (λ (k : ℕ). part (bytes_of (after true)) p k) long)
      by_place p n passes (inr apart) =
          let same : part (bytes_of (after true)) p n ≡ part (bytes_of m) p n = part-put_apart place content (bytes_of m) p n fits apart in
          inr (subst (λ (l : List ℕ). HandedSince t (handed m) p l) (sym same) (fair.fair p n (subst (λ (l : List ℕ). passes_check size p n l ≡ true) same passes)))

      go : (d : Bool) → HasFairBytes size t (after d)
      go false = record { size_is = fair.size_is; fair = λ p n passes. inr (fair.fair p n passes) }
      go true = record {
        size_is = length-put place content (bytes_of m) fits ∙ fair.size_is;
        fair = λ p n passes. by_place p n passes (same_or_apart place (length content) p n whole (passes-checked size p n (part (bytes_of (after true)) p n) passes));
      }

  -- a good flush
  pub fair_bytes_settled : (t : ℕ) (m : Moment) → HasFairBytes size t m → HasFairBytes size t (settled (bytes_of m) m)
  fair_bytes_settled t m fair = record { size_is = fair.size_is; fair = fair_settled (passes_check size) t (bytes_of m) m fair.fair }
