-- Bytes that are written over others, and parts of them.
use Rattle.std.proofs.Common.{◌≡◌, ◌⊎◌, inl, inr, ℕ, ◌+◌, ◌-◌, ◌<◌, ◌≤◌, List, ◌++◌, length, take, drop, get_or, refl, sym, ◌∙◌, ap, arith, length-take, length-drop}
use Rattle.std.proofs.lemmas.List.{places, ext_get_or, take_at, drop_at, take-append-drop, length-take-le, get_or-take, get_or-drop, get_or_append_left, get_or-append_right, drop-drop, drop-take, take-take}
use Rattle.std.proofs.lemmas.Bool.{cases_lt}
use Rattle.base.specs.formats.Fields.{part}
use Rattle.base.specs.disk.Disk.{put, IsInRange}
pub use Rattle.base.specs.disk.Disk.{Apart}

pub length-put : (place : ℕ) (content bytes : List ℕ) → place + length content ≤ length bytes → length (put place content bytes) ≡ length bytes
length-put place content bytes fits = grind (arith, places)

pub get_or-put_other : (place : ℕ) (content bytes : List ℕ) (i : ℕ) → place + length content ≤ length bytes → (i < place) ⊎ (place + length content ≤ i) → get_or (put place content bytes) i 0 ≡ get_or bytes i 0
get_or-put_other place content bytes i fits (inl before) =
    let short : length (take place bytes) ≡ place = length-take-le place bytes (omega arith) in
    get_or_append_left (take place bytes) (content ++ drop (place + length content) bytes) 0 i (omega arith) ∙ get_or-take place bytes i 0 before
get_or-put_other place content bytes i fits (inr behind) =
    let short : length (take place bytes) ≡ place = length-take-le place bytes (omega arith) in
    let there : place + length content + (i - place - length content) ≡ i = omega arith in
    get_or-append_right (take place bytes) (content ++ drop (place + length content) bytes) place i 0 short (omega arith)
    ∙ get_or-append_right content (drop (place + length content) bytes) (length content) (i - place) 0 refl (omega arith)
    ∙ get_or-drop (place + length content) bytes (i - place - length content) 0
    ∙ ap (λ (k : ℕ). get_or bytes k 0) there

pub part-put_same : (place : ℕ) (content bytes : List ℕ) → place + length content ≤ length bytes → part (put place content bytes) place (length content) ≡ content
part-put_same place content bytes fits =
    let short : length (take place bytes) ≡ place = length-take-le place bytes (omega arith) in
    ap (λ (l : List ℕ). take (length content) l) (drop_at (take place bytes) (content ++ drop (place + length content) bytes) place short)
    ∙ take_at content (drop (place + length content) bytes) (length content) refl

-- parts are equal where their bytes are
pub part_same : (xs ys : List ℕ) (place n : ℕ) → length xs ≡ length ys → ((i : ℕ) → place ≤ i → i < place + n → get_or xs i 0 ≡ get_or ys i 0) → part xs place n ≡ part ys place n
part_same xs ys place n long each =
    ext_get_or 0 (part xs place n) (part ys place n) (omega (arith, length-take n (drop place xs), length-take n (drop place ys), length-drop place xs, length-drop place ys))
    (λ k in_part.
    let below : k < n = omega (arith, in_part, length-take n (drop place xs), length-drop place xs) in
    get_or-take n (drop place xs) k 0 below ∙ get_or-drop place xs k 0 ∙ each (place + k) (omega arith) (omega arith)
    ∙ sym (get_or-drop place ys k 0) ∙ sym (get_or-take n (drop place ys) k 0 below))

pub part-put_apart : (place : ℕ) (content bytes : List ℕ) (other n : ℕ) → place + length content ≤ length bytes → Apart place (length content) other n → part (put place content bytes) other n ≡ part bytes other n
part-put_apart place content bytes other n fits apart =
    part_same (put place content bytes) bytes other n (length-put place content bytes fits) (λ i from to. get_or-put_other place content bytes i fits (side i from to apart))
  where
    side : (i : ℕ) → other ≤ i → i < other + n → Apart place (length content) other n → (i < place) ⊎ (place + length content ≤ i)
    side i from to (inl before) = inr (omega arith)
    side i from to (inr behind) = inl (omega arith)

pub length-part : (place n : ℕ) (bytes : List ℕ) → place + n ≤ length bytes → length (part bytes place n) ≡ n
length-part place n bytes fits = length-take-le n (drop place bytes) (omega (arith, fits, length-drop place bytes))

-- what stood there, put back
pub put-part : (place n : ℕ) (bytes : List ℕ) → place + n ≤ length bytes → put place (part bytes place n) bytes ≡ bytes
put-part place n bytes fits =
    ap (λ (k : ℕ). take place bytes ++ (part bytes place n ++ drop (place + k) bytes)) (length-part place n bytes fits)
    ∙ ap (λ (l : List ℕ). take place bytes ++ (part bytes place n ++ l)) (sym (drop-drop n place bytes))
    ∙ ap (λ (l : List ℕ). take place bytes ++ l) (take-append-drop n (drop place bytes))
    ∙ take-append-drop place bytes

-- what is put twice at one place
pub put-put : (place : ℕ) (second first bytes : List ℕ) → length second ≡ length first → place + length first ≤ length bytes → put place second (put place first bytes) ≡ put place second bytes
put-put place second first bytes long fits =
    ap (λ (l : List ℕ). l ++ (second ++ drop (place + length second) (put place first bytes))) (take_at (take place bytes) (first ++ drop (place + length first) bytes) place short)
    ∙ ap (λ (l : List ℕ). take place bytes ++ (second ++ l)) rest
  where
    short : length (take place bytes) ≡ place
    short = length-take-le place bytes (omega (arith, fits))

    rest : drop (place + length second) (put place first bytes) ≡ drop (place + length second) bytes
    rest = sym (drop-drop (length second) place (put place first bytes))
        ∙ ap (λ (l : List ℕ). drop (length second) l) (drop_at (take place bytes) (first ++ drop (place + length first) bytes) place short)
        ∙ drop_at first (drop (place + length first) bytes) (length second) (sym long)
        ∙ ap (λ (k : ℕ). drop (place + k) bytes) (sym long)

pub put-put_part : (place : ℕ) (content bytes : List ℕ) → place + length content ≤ length bytes → put place (part bytes place (length content)) (put place content bytes) ≡ bytes
put-put_part place content bytes fits =
    put-put place (part bytes place (length content)) content bytes (length-part place (length content) bytes fits) fits ∙ put-part place (length content) bytes fits

-- a byte of what was put
pub get_or-put_in : (place : ℕ) (content bytes : List ℕ) (i : ℕ) → place + length content ≤ length bytes → place ≤ i → i < place + length content → get_or (put place content bytes) i 0 ≡ get_or content (i - place) 0
get_or-put_in place content bytes i fits from to =
    let short : length (take place bytes) ≡ place = length-take-le place bytes (omega (arith, fits)) in
    get_or-append_right (take place bytes) (content ++ drop (place + length content) bytes) place i 0 short from
    ∙ get_or_append_left content (drop (place + length content) bytes) 0 (i - place) (omega (arith, from, to))

-- a part of a part
pub part-part : (bytes : List ℕ) (a n b m : ℕ) → b + m ≤ n → part (part bytes a n) b m ≡ part bytes (a + b) m
part-part bytes a n b m fits =
    let rest : n ≡ b + (n - b) = omega (arith, fits) in
    ap (λ (k : ℕ). take m (drop b (take k (drop a bytes)))) rest
    ∙ ap (λ (l : List ℕ). take m l) (drop-take b (n - b) (drop a bytes))
    ∙ take-take m (n - b) (drop b (drop a bytes)) (omega (arith, fits))
    ∙ ap (λ (l : List ℕ). take m l) (drop-drop b a bytes)

-- what is not in a range is before it or behind it, and two ranges lie apart in either order
pub outside_range : (place n i : ℕ) → (IsInRange place n i → ⊥) → (i < place) ⊎ (place + n ≤ i)
outside_range place n i out = elim (cases_lt i place) [
  | inl before ↦ inl before
  | inr from ↦ elim (cases_lt i (place + n)) [ inl to ↦ absurd (out (from, to)) | inr behind ↦ inr behind ]
]

pub apart_turned : (a m b n : ℕ) → Apart a m b n → Apart b n a m
apart_turned a m b n (inl before) = inr before
apart_turned a m b n (inr behind) = inl behind
