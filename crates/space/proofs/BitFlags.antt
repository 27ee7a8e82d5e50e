-- Flags are the bits of words: how one is read, set, cleared and found.
use Rattle.std.proofs.Common.{◌≡◌, ◌≢◌, ℕ, ◌+◌, ◌-◌, ◌*◌, ◌/◌, ◌%◌, ◌^◌, ◌<◌, ◌≤◌, Bool, true, false, eqb, List, length, max, min, get_or, bit_and, bit_or, ltb, Option, IfSome, IfNone, inl, inr, refl, sym, ◌∙◌, ap, arith, w64, ext_get_or}
use Rattle.std.specs.Prelude.{replicate}
use Rattle.std.specs.Int.{bit_at, bit_not, trailing_zeros}
use Rattle.std.proofs.Math.ListN.{set as list_set}
use Rattle.std.specs.Bool.{then_some}
use Rattle.std.proofs.lemmas.Bool.{cases_eq, cases_lt, eq-eqb, ltb-false, ltb-true, ne_eqb}
use Rattle.std.proofs.lemmas.List.{get_or-replicate, get_or-set_other, get_or-set_same, get_or_past, length-replicate, length-set}
use Rattle.std.proofs.lemmas.List.FromFn.{get_or-map-range_with_len, length-map-range_with_len}
use Rattle.std.proofs.lemmas.Nat.Bits.{bit_at-lt, bit_at-trailing_zeros, bit_at-zero, bit_at_and, bit_at_clear_other, bit_at_clear_same, bit_at_mask_below, bit_at_mask_inside, bit_at_ones, bit_at_set_other, bit_at_set_same, ones_shl, shr_and_one}
use Rattle.space.specs.BitFlags.{IsLowestOne, flag_at, flags_of}
use Rattle.space.specs.SetFlags.{AreClear, IsFirstSet}
use Rattle.space.proofs.SetFlags.{clear_from}

pub length-flags_of : (count : ℕ) (words : List ℕ) → length (flags_of count words) ≡ count
unfolding flags_of
length-flags_of count words = length-map-range_with_len (flag_at words) 0 count

pub get_or-flags_of : (count : ℕ) (words : List ℕ) (k : ℕ) → k < count → get_or (flags_of count words) k false ≡ flag_at words k
unfolding flags_of
get_or-flags_of count words k low = get_or-map-range_with_len (flag_at words) 0 count k k false low (omega arith)

-- a flag that isn't there is clear
pub flags_past : (count : ℕ) (words : List ℕ) (k : ℕ) → count ≤ k → get_or (flags_of count words) k false ≡ false
flags_past count words k past = get_or_past (flags_of count words) k false (omega (arith, past, length-flags_of count words))

-- a shift and a mask read it
pub flag_read : (count : ℕ) (words : List ℕ) (k word : ℕ) → k < count → word ≡ get_or words (k / 64) 0
    → eqb (bit_and (word / 2 ^ (k % 64)) 1) 1 ≡ get_or (flags_of count words) k false
flag_read count words k word low read =
    ap (λ n. eqb n 1) (shr_and_one word (k % 64) ∙ ap (λ w. bit_at w (k % 64)) read) ∙ sym (get_or-flags_of count words k low)

-- words of ones have all flags set
pub flags_of-ones : (count n : ℕ) → count ≤ n * 64 → flags_of count (replicate n (2 ^ 64 - 1)) ≡ replicate count true
flags_of-ones count n room =
    let words : List ℕ = replicate n (2 ^ 64 - 1) in
    ext_get_or false _ _ (length-flags_of count words ∙ sym (length-replicate count true)) (λ k low.
    let inside : k < count = rw length-flags_of at low in
    get_or-flags_of count words k inside
    ∙ ap (λ w. eqb (bit_at w (k % 64)) 1) (get_or-replicate n (k / 64) (2 ^ 64 - 1) 0 (omega (arith, inside, room)))
    ∙ eq-eqb _ 1 (bit_at_ones 64 (k % 64) (omega arith))
    ∙ sym (get_or-replicate count k true false inside))

-- a word that differs in one bit alone changes that flag alone
flags_of-changed : (count : ℕ) (words : List ℕ) (n word : ℕ) (b : Bool) → n < count → n / 64 < length words → eqb (bit_at word (n % 64)) 1 ≡ b
    → ((i : ℕ) → i < 64 → i ≢ n % 64 → bit_at word i ≡ bit_at (get_or words (n / 64) 0) i)
    → flags_of count (list_set words (n / 64) word) ≡ list_set (flags_of count words) n b
flags_of-changed count words n word b low within is others =
    let new : List ℕ = list_set words (n / 64) word in
    ext_get_or false _ _ (length-flags_of count new ∙ sym (length-flags_of count words) ∙ sym (length-set (flags_of count words) n b)) (λ k inside.
    let here : k < count = rw length-flags_of at inside in
    get_or-flags_of count new k here ∙ (elim (cases_eq k n) as (λ _. flag_at new k ≡ get_or (list_set (flags_of count words) n b) k false) [
      | inl same ↦
          rw same
          (ap (λ w. eqb (bit_at w (n % 64)) 1) (get_or-set_same words (n / 64) word 0 within) ∙ is
          ∙ sym (get_or-set_same (flags_of count words) n b false (omega (arith, low, length-flags_of count words))))
      | inr other ↦
          (elim (cases_eq (k / 64) (n / 64)) as (λ _. flag_at new k ≡ flag_at words k) [
            | inl row ↦
                ap (λ x. eqb (bit_at (get_or new x 0) (k % 64)) 1) row
                ∙ ap (λ w. eqb (bit_at w (k % 64)) 1) (get_or-set_same words (n / 64) word 0 within)
                ∙ ap (λ x. eqb x 1) (others (k % 64) (omega arith) (omega (arith, row, other)))
                ∙ ap (λ x. eqb (bit_at (get_or words x 0) (k % 64)) 1) (sym row)
            | inr apart ↦ ap (λ w. eqb (bit_at w (k % 64)) 1) (get_or-set_other words (n / 64) (k / 64) word 0 apart)
          ])
          ∙ sym (get_or-flags_of count words k here)
          ∙ sym (get_or-set_other (flags_of count words) n k b false other)
    ]))

pub flags_of-set : (count : ℕ) (words : List ℕ) (n word : ℕ) → n < count → count ≤ length words * 64 → word ≡ get_or words (n / 64) 0
    → flags_of count (list_set words (n / 64) (bit_or word (1 * 2 ^ (n % 64) % 2 ^ 64))) ≡ list_set (flags_of count words) n true
flags_of-set count words n word low room read =
    let place : n % 64 < 64 = omega arith in
    flags_of-changed count words n _ true low (omega (arith, low, room)) (eq-eqb _ 1 (bit_at_set_same w64 word (n % 64) place))
    (λ i _ other. bit_at_set_other w64 word (n % 64) place i other ∙ ap (λ w. bit_at w i) read)

pub flags_of-cleared : (count : ℕ) (words : List ℕ) (n word : ℕ) → n < count → count ≤ length words * 64 → word ≡ get_or words (n / 64) 0
    → flags_of count (list_set words (n / 64) (bit_and word (bit_not w64 (1 * 2 ^ (n % 64) % 2 ^ 64)))) ≡ list_set (flags_of count words) n false
flags_of-cleared count words n word low room read =
    let place : n % 64 < 64 = omega arith in
    let none = bit_at_clear_same w64 word (n % 64) place in
    flags_of-changed count words n _ false low (omega (arith, low, room)) (ne_eqb _ 1 (λ one. omega (arith, none, one)))
    (λ i below other. bit_at_clear_other w64 word (n % 64) place i below other ∙ ap (λ w. bit_at w i) read)

-- the bits of a word from a place on, without those before it
kept_bits : (word from i : ℕ) → from ≤ i → i < 64 → bit_at (bit_and word (2 ^ 64 - 2 ^ from)) i ≡ bit_at word i
kept_bits word from i low high =
    bit_at_and word (2 ^ 64 - 2 ^ from) i ∙ ap (min (bit_at word i)) (bit_at_mask_inside from 64 i low high) ∙ (let bit = bit_at-lt word i in omega (arith, bit))

left_bits : (word from i : ℕ) → i < from → bit_at (bit_and word (2 ^ 64 - 2 ^ from)) i ≡ 0
left_bits word from i low =
    bit_at_and word (2 ^ 64 - 2 ^ from) i ∙ ap (min (bit_at word i)) (bit_at_mask_below from 64 i low) ∙ omega arith

-- if no bit is left, none of them is 1
pub no_one_left : (word from : ℕ) → from < 64 → bit_and word ((2 ^ 64 - 1) * 2 ^ from % 2 ^ 64) ≡ 0 → (i : ℕ) → from ≤ i → i < 64 → bit_at word i ≡ 0
no_one_left word from small none i low high =
    let left : bit_and word (2 ^ 64 - 2 ^ from) ≡ 0 = ap (bit_and word) (sym (ones_shl 64 from (omega (arith, small)))) ∙ none in
    sym (kept_bits word from i low high) ∙ ap (λ n. bit_at n i) left ∙ bit_at-zero i

-- and else the lowest one that is left is the lowest of them
pub lowest_left : (word from left : ℕ) → from < 64 → left ≡ bit_and word ((2 ^ 64 - 1) * 2 ^ from % 2 ^ 64) → 0 < left → left < 2 ^ 64 → IsLowestOne from word (trailing_zeros w64 left)
lowest_left word from left small made some fits =
    let is : left ≡ bit_and word (2 ^ 64 - 2 ^ from) = made ∙ ap (bit_and word) (ones_shl 64 from (omega (arith, small))) in
    let lowest = bit_at-trailing_zeros w64 left some fits in
    let bit : ℕ = trailing_zeros w64 left in
    let there : bit_at (bit_and word (2 ^ 64 - 2 ^ from)) bit ≡ 1 = ap (λ n. bit_at n bit) (sym is) ∙ lowest.1 in
    let low : from ≤ bit = elim (cases_lt bit from) [
      | inl before ↦ absurd (let none = left_bits word from bit before in omega (arith, none, there))
      | inr past ↦ past
    ] in record {
      from = low;
      within = lowest.0;
      is_one = sym (kept_bits word from bit low lowest.0) ∙ there;
      below = λ i from_here before.
          sym (kept_bits word from i from_here (let within = lowest.0 in omega (arith, before, within)))
          ∙ ap (λ n. bit_at n i) (sym is) ∙ lowest.2 i before;
    }

-- flags of a word whose bits are 0 from a place on
clear_word : (count : ℕ) (words : List ℕ) (index first last : ℕ)
    → ((i : ℕ) → first - index * 64 ≤ i → i < last - index * 64 → bit_at (get_or words index 0) i ≡ 0) → last ≤ index * 64 + 64
    → AreClear (max first (index * 64)) last (flags_of count words)
clear_word count words index first last zeros end k low high = elim (cases_lt k count) [
  | inl there ↦
      (let word : k / 64 ≡ index = omega (arith, low, high, end) in
      get_or-flags_of count words k there
      ∙ ap (λ x. eqb (bit_at (get_or words x 0) (k % 64)) 1) word
      ∙ ap (λ x. eqb x 1) (zeros (k % 64) (omega (arith, low, word)) (omega (arith, high, word))))
  | inr past ↦ flags_past count words k past
]

-- before the lowest bit that is 1 no flag is set, if those before the word are clear
pub up_to_found : (count : ℕ) (words : List ℕ) (index first word bit : ℕ) → AreClear first (index * 64) (flags_of count words)
    → word ≡ get_or words index 0 → IsLowestOne (first - index * 64) word bit → AreClear first (index * 64 + bit) (flags_of count words)
up_to_found count words index first word bit below read lowest =
    let small = lowest.within in
    clear_from first (index * 64) (index * 64 + bit) (flags_of count words) below
    (clear_word count words index first (index * 64 + bit)
    (λ i from before. ap (λ w. bit_at w i) (sym read) ∙ lowest.below i from (omega (arith, before))) (omega (arith, small)))

-- so it is the first set flag
pub found_first : (count : ℕ) (words : List ℕ) (index first last word bit : ℕ) → AreClear first (index * 64) (flags_of count words)
    → word ≡ get_or words index 0 → IsLowestOne (first - index * 64) word bit → index * 64 + bit < count → index * 64 + bit < last
    → IsFirstSet first last (flags_of count words) (index * 64 + bit)
found_first count words index first last word bit below read lowest there within =
    let from = lowest.from in
    let small = lowest.within in
    let row : (index * 64 + bit) / 64 ≡ index = omega (arith, small) in
    let place : (index * 64 + bit) % 64 ≡ bit = omega (arith, small) in
    record {
      from = omega (arith, from);
      within = within;
      is_set = get_or-flags_of count words (index * 64 + bit) there
          ∙ ap (λ x. eqb (bit_at (get_or words x 0) ((index * 64 + bit) % 64)) 1) row
          ∙ ap (λ i. eqb (bit_at (get_or words index 0) i) 1) place
          ∙ ap (λ w. eqb (bit_at w bit) 1) (sym read) ∙ eq-eqb _ 1 lowest.is_one;
      lowest = up_to_found count words index first word bit below read lowest;
    }

-- a word without such a bit is passed over
pub word_passed : (count : ℕ) (words : List ℕ) (index first word : ℕ) → AreClear first (index * 64) (flags_of count words)
    → word ≡ get_or words index 0 → ((i : ℕ) → first - index * 64 ≤ i → i < 64 → bit_at word i ≡ 0) → AreClear first ((index + 1) * 64) (flags_of count words)
word_passed count words index first word below read zeros =
    clear_from first (index * 64) ((index + 1) * 64) (flags_of count words) below
    (clear_word count words index first ((index + 1) * 64)
    (λ i from before. ap (λ w. bit_at w i) (sym read) ∙ zeros i from (omega (arith, before))) (omega arith))

-- flags that are clear up to the last one of them are clear
pub clear_to : (count : ℕ) (words : List ℕ) (first last end : ℕ) → min last count ≤ end → AreClear first end (flags_of count words) → AreClear first last (flags_of count words)
clear_to count words first last end enough clear k low high = elim (cases_lt k count) [
  | inl there ↦ clear k low (omega (arith, high, there, enough))
  | inr past ↦ flags_past count words k past
]

if_some : (b : Bool) (k : ℕ) (P : ℕ → Type 0) → (b ≡ true → P k) → IfSome (then_some b k) P
if_some true k P told = told refl
if_some false k P told = tt

if_none : (b : Bool) (k : ℕ) (P : Type 0) → (b ≡ false → P) → IfNone (then_some b k) P
if_none true k P told = tt
if_none false k P told = told refl

-- what a search answers by the word in which it found a bit that is 1
pub found_in_word : (count : ℕ) (words : List ℕ) (index first last end word bit : ℕ) (answer : Option ℕ) → AreClear first (index * 64) (flags_of count words)
    → word ≡ get_or words index 0 → IsLowestOne (first - index * 64) word bit → end ≡ min last count
    → answer ≡ then_some (ltb (index * 64 + bit) end) (index * 64 + bit) → IfSome answer (IsFirstSet first last (flags_of count words))
found_in_word count words index first last end word bit answer below read lowest ends is = rw is (if_some _ _ (IsFirstSet first last (flags_of count words)) (λ before.
    let low = ltb-true _ _ before in
    found_first count words index first last word bit below read lowest (omega (arith, low, ends)) (omega (arith, low, ends))))

pub none_in_word : (count : ℕ) (words : List ℕ) (index first last end word bit : ℕ) (answer : Option ℕ) → AreClear first (index * 64) (flags_of count words)
    → word ≡ get_or words index 0 → IsLowestOne (first - index * 64) word bit → end ≡ min last count
    → answer ≡ then_some (ltb (index * 64 + bit) end) (index * 64 + bit) → IfNone answer (AreClear first last (flags_of count words))
none_in_word count words index first last end word bit answer below read lowest ends is = rw is (if_none _ _ (AreClear first last (flags_of count words)) (λ past.
    let high = ltb-false _ _ past in
    clear_to count words first last (index * 64 + bit) (omega (arith, high, ends)) (up_to_found count words index first word bit below read lowest)))
