-- A byte laid over another by its mark.
use Rattle.std.proofs.Common.{◌≡◌, ℕ, zero, suc, cond, [], ◌∷◌, ◌&&◌, ◌<◌, ◌≤◌, ◌+◌, ◌-◌, ◌==◌, true, refl, ap, ◌∙◌, arith, ◌⊎◌, inl, inr, bit_and, bit_or, List, ◌++◌, length, get_or, take, drop, replicate, Some}
use Rattle.std.specs.Prelude.{All, nat_le, nat_lt}
use Rattle.std.proofs.lemmas.Bool.{or_cases, eqb-true, cases_lt, lt-leb, le-leb, lt-ltb, le-ltb}
use Rattle.std.proofs.lemmas.List.{length-append, length-take, length-replicate, get_or-replicate, get_or-take, get_or_past}
use Rattle.std.proofs.lemmas.List.Elements.{All-append, All-take, All-drop, All-replicate}
use Rattle.base.specs.disk.Disk.{put}
use Rattle.base.proofs.disk.Put.{get_or-put_other, get_or-put_in}
use Rattle.std.specs.Int.Bits.{and_zero_r, or_zero_l, or_zero_r}
use Rattle.std.proofs.lemmas.Grind.{and_numeral}
use Rattle.extents.specs.Marks.{is_mark, laid_byte, byte_in, marked_byte, with_zeros}
use Rattle.extents.specs.Patches.{written_after, written_below}

pub masked_byte : (mark byte below : ℕ) → is_mark mark ≡ true → byte < 256 → below < 256
    → bit_or (bit_and byte mark) (bit_and below (255 - mark)) ≡ laid_byte mark byte below
masked_byte mark byte below is b l = go (or_cases (mark == 0) (mark == 255) is)
  where
    go : ((mark == 0) ≡ true) ⊎ ((mark == 255) ≡ true) → bit_or (bit_and byte mark) (bit_and below (255 - mark)) ≡ laid_byte mark byte below
    go (inl e) = let z : mark ≡ 0 = eqb-true mark 0 e in rw (z, and_zero_r, or_zero_l) (and_numeral below 254 refl ∙ (omega arith))
    go (inr e) = let z : mark ≡ 255 = eqb-true mark 255 e in rw (z, and_zero_r, or_zero_r) (and_numeral byte 254 refl ∙ (omega arith))

-- the bytes that were written once more are
pub written_bytes : (offset : ℕ) (content bytes mask : List ℕ) → offset + length content ≤ length bytes → offset + length content ≤ length mask
    → (k : ℕ) → byte_in (put offset content bytes) (put offset (replicate (length content) 255) mask) k ≡ written_after offset content (byte_in bytes mask) k
written_bytes offset content bytes mask fits marks k = go (cases_lt k offset) (cases_lt k (offset + length content))
  where
    marks_of : List ℕ
    marks_of = replicate (length content) 255

    long : length marks_of ≡ length content
    long = length-replicate (length content) 255

    apart : (k < offset) ⊎ (offset + length content ≤ k) → byte_in (put offset content bytes) (put offset (replicate (length content) 255) mask) k ≡ byte_in bytes mask k
    apart side =
        ap (λ b. marked_byte (get_or (put offset (replicate (length content) 255) mask) k 0) b) (get_or-put_other offset content bytes k fits side)
        ∙ ap (λ m. marked_byte m (get_or bytes k 0)) (get_or-put_other offset (replicate (length content) 255) mask k (rw long marks) (rw long side))

    go : (k < offset) ⊎ (offset ≤ k) → (k < offset + length content) ⊎ (offset + length content ≤ k)
        → byte_in (put offset content bytes) (put offset (replicate (length content) 255) mask) k ≡ written_after offset content (byte_in bytes mask) k
    go (inl before) _ = rw (lt-leb offset k before) (apart (inl before))
    go (inr from) (inr past) = rw (le-leb offset k from, le-ltb k (offset + length content) past) (apart (inr past))
    go (inr from) (inl within) =
        let marked : get_or (put offset (replicate (length content) 255) mask) k 0 ≡ 255
        = get_or-put_in offset (replicate (length content) 255) mask k (rw long marks) from (rw long within) ∙ get_or-replicate (length content) (k - offset) 255 0 (omega arith) in
        rw (le-leb offset k from, lt-ltb k (offset + length content) within)
        (rw marked (ap Some (get_or-put_in offset content bytes k fits from within)))

-- marks stay marks
pub put_marks : (offset count mark : ℕ) (mask : List ℕ) → is_mark mark ≡ true → All (λ m. is_mark m ≡ true) mask
    → All (λ m. is_mark m ≡ true) (put offset (replicate count mark) mask)
put_marks offset count mark mask is all =
    All-append (λ m. is_mark m ≡ true) (take offset mask) (replicate count mark ++ drop (offset + length (replicate count mark)) mask) (All-take (λ m. is_mark m ≡ true) offset mask all)
    (All-append (λ m. is_mark m ≡ true) (replicate count mark) (drop (offset + length (replicate count mark)) mask) (All-replicate (λ m. is_mark m ≡ true) count mark is)
    (All-drop (λ m. is_mark m ≡ true) (offset + length (replicate count mark)) mask all))

-- the bytes that were written before an offset are left if those from it on are cut off
pub cut_bytes : (offset : ℕ) (bytes mask : List ℕ) (k : ℕ) → byte_in (take offset bytes) (take offset mask) k ≡ written_below offset (byte_in bytes mask) k
cut_bytes offset bytes mask k = go (cases_lt k offset)
  where
    short : length (take offset mask) ≤ offset
    short = let long = length-take offset mask in omega (arith, long)

    go : (k < offset) ⊎ (offset ≤ k) → byte_in (take offset bytes) (take offset mask) k ≡ written_below offset (byte_in bytes mask) k
    go (inl before) =
        rw (lt-ltb k offset before) (ap (λ b. marked_byte (get_or (take offset mask) k 0) b) (get_or-take offset bytes k 0 before)
        ∙ ap (λ m. marked_byte m (get_or bytes k 0)) (get_or-take offset mask k 0 before))
    go (inr from) =
        rw (le-ltb k offset from) (ap (λ m. marked_byte m (get_or (take offset bytes) k 0)) (get_or_past (take offset mask) k 0 (omega (arith, short, from))))

-- zeros that are laid out change no byte, and no mark
get_or-zeros : (n k : ℕ) → ◌≡◌ {A = ℕ} (get_or (replicate n 0) k 0) 0
get_or-zeros zero k = refl
get_or-zeros (suc n) zero = refl
get_or-zeros (suc n) (suc k) = get_or-zeros n k

get_or-append_zeros : (xs : List ℕ) (n k : ℕ) → get_or (xs ++ replicate n 0) k 0 ≡ get_or xs k 0
get_or-append_zeros [] n k = get_or-zeros n k
get_or-append_zeros (x ∷ xs) n zero = refl
get_or-append_zeros (x ∷ xs) n (suc k) = get_or-append_zeros xs n k

pub byte_in-with_zeros : (size : ℕ) (bytes mask : List ℕ) (k : ℕ) → byte_in (with_zeros size bytes) (with_zeros size mask) k ≡ byte_in bytes mask k
byte_in-with_zeros size bytes mask k =
    ap (λ b. marked_byte (get_or (with_zeros size mask) k 0) b) (get_or-append_zeros bytes (size - length bytes) k)
    ∙ ap (λ m. marked_byte m (get_or bytes k 0)) (get_or-append_zeros mask (size - length mask) k)

pub zeros_are_marks : (size : ℕ) (mask : List ℕ) → All (λ m. is_mark m ≡ true) mask → All (λ m. is_mark m ≡ true) (with_zeros size mask)
zeros_are_marks size mask all = All-append (λ m. is_mark m ≡ true) mask (replicate (size - length mask) 0) all (All-replicate (λ m. is_mark m ≡ true) (size - length mask) 0 refl)

-- bytes that are written after zeros were laid out
pub written_after_zeros : (offset : ℕ) (content bytes mask : List ℕ) → (k : ℕ)
    → byte_in (put offset content (with_zeros (offset + length content) bytes)) (put offset (replicate (length content) 255) (with_zeros (offset + length content) mask)) k
    ≡ written_after offset content (byte_in bytes mask) k
written_after_zeros offset content bytes mask k =
    written_bytes offset content (with_zeros end bytes) (with_zeros end mask) (reached bytes) (reached mask) k
    ∙ ap (λ w. cond (nat_le offset k && nat_lt k (offset + length content)) (Some (get_or content (k - offset) 0)) w) (byte_in-with_zeros end bytes mask k)
  where
    end : ℕ
    end = offset + length content

    reached : (xs : List ℕ) → offset + length content ≤ length (with_zeros end xs)
    reached xs = rw (length-append xs (replicate (end - length xs) 0), length-replicate {A = ℕ} (end - length xs) 0) (omega arith)
