-- A check whose four words are zero.
use Rattle.std.proofs.Common.{◌≡◌, ◌+◌, ◌-◌, ◌*◌, ◌/◌, ◌%◌, ◌<◌, ◌≤◌, List, ℕ, arith, get_or, length, replicate, take, drop, inl, inr, refl, ap, sym, ◌∙◌}
use Rattle.std.proofs.lemmas.List.{drop-replicate, ext_get_or, get_or-drop, get_or-replicate, get_or-take, get_or_past, length-drop, length-replicate, length-take-le, take-replicate}
use Rattle.std.proofs.lemmas.Bool.{cases_lt}
use Rattle.std.proofs.lemmas.Nat.{le_bytes_8}
use Rattle.std.specs.Int.{from_le_bytes, to_le_bytes, w64}
use Rattle.base.specs.formats.Fields.{number_at, part}

zero_word : to_le_bytes w64 0 ≡ replicate 8 0
zero_word = refl

-- the bytes of a word
word_zeros : (check : List ℕ) (at : ℕ) → length check ≡ 32 → at + 8 ≤ 32 → ((i : ℕ) → get_or check i 0 < 256) → number_at check at ≡ 0
    → part check at 8 ≡ replicate 8 0
unfolding number_at
word_zeros check at long low bytes none =
    let fits : 8 ≤ length (drop at check) = rw (length-drop at check) omega (arith, long, low) in
    let size : length (part check at 8) ≡ 8 = length-take-le 8 (drop at check) fits in
    let each : (i : ℕ) → get_or (part check at 8) i 0 < 256 = λ i. elim (cases_lt i 8) [
      | inl inside ↦ rw (get_or-take 8 (drop at check) i 0 inside, get_or-drop at check i 0) (bytes (at + i))
      | inr past ↦ rw (get_or_past (part check at 8) i 0 (omega (arith, size, past))) omega arith
    ] in
    sym (le_bytes_8 (part check at 8) 0 size each (sym none)) ∙ zero_word

pub words_zeros : (check : List ℕ) → length check ≡ 32 → ((i : ℕ) → get_or check i 0 < 256) → ((k : ℕ) → k < 4 → number_at check (8 * k) ≡ 0)
    → check ≡ replicate 32 0
words_zeros check long bytes none =
    ext_get_or 0 check (replicate 32 0) (long ∙ sym (length-replicate {A = ℕ} 32 0))
    (λ i low.
    let k = i / 8 in
    let here : 8 * k + i % 8 ≡ i = omega arith in
    let word = word_zeros check (8 * k) long (omega (arith, low, long)) bytes (none k (omega (arith, low, long))) in
    ap (λ j. get_or check j 0) (sym here) ∙ sym (get_or-drop (8 * k) check (i % 8) 0) ∙ sym (get_or-take 8 (drop (8 * k) check) (i % 8) 0 (omega arith))
    ∙ ap (λ l. get_or l (i % 8) 0) word ∙ get_or-replicate 8 (i % 8) 0 0 (omega arith) ∙ sym (get_or-replicate 32 i 0 0 (omega (arith, low, long))))

-- and the words of zeros
pub zeros_words : (k : ℕ) → k < 4 → number_at (replicate 32 0) (8 * k) ≡ 0
unfolding number_at
zeros_words k low =
    let word : part (replicate 32 0) (8 * k) 8 ≡ replicate 8 0 = ap (λ l. take 8 l) (drop-replicate (8 * k) 32 0) ∙ take-replicate 8 (32 - 8 * k) 0 (omega (arith, low)) in
    ap (λ l. from_le_bytes w64 l) word
