-- Fields of a block, as they are put one after the other.
use Rattle.std.proofs.Common.{◌≡◌, ℕ, ◌+◌, ◌^◌, ◌<◌, ◌≤◌, List, [], ◌++◌, length, take, drop, replicate, get_or, refl, sym, ◌∙◌, ap, append_assoc, arith, ◌⊎◌, inl, inr}
use Rattle.std.proofs.lemmas.List.{take_at, drop_at, length-append, length-replicate, replicate-append-replicate, get_or_past}
use Rattle.std.proofs.lemmas.List.Elements.{All-get_or, All-take, All-drop}
use Rattle.std.proofs.lemmas.Bool.{cases_lt}
use Rattle.std.proofs.lemmas.Nat.{le_bytes_8}
use Rattle.std.specs.Int.{from_le_bytes, w64}
use Rattle.std.specs.List.{All}
use Rattle.base.specs.disk.Disk.{put}
use Rattle.base.specs.formats.Fields.{part, number_at, number_bytes}
use Rattle.base.proofs.disk.Put.{length-part}
use Rattle.base.proofs.formats.FieldsRead.{length-number_bytes, number_bytes-read, put-put_behind}

-- what is put over what lies between
pub put-between : (place : ℕ) (content before old after : List ℕ) → length before ≡ place → length old ≡ length content
    → put place content (before ++ (old ++ after)) ≡ before ++ (content ++ after)
put-between place content before old after long same =
    let joined : length (before ++ old) ≡ place + length content = length-append before old ∙ omega (arith, long, same) in
    ap (λ (l : List ℕ). l ++ (content ++ drop (place + length content) (before ++ (old ++ after)))) (take_at before (old ++ after) place long)
    ∙ ap (λ (l : List ℕ). before ++ (content ++ l))
    (ap (λ (l : List ℕ). drop (place + length content) l) (sym (append_assoc before old after)) ∙ drop_at (before ++ old) after (place + length content) joined)

-- the number between what lies before it and after it
pub number_at-between : (at n : ℕ) (before after : List ℕ) → length before ≡ at → n < 2 ^ 64 → number_at (before ++ (number_bytes n ++ after)) at ≡ n
unfolding number_at
number_at-between at n before after long small =
    ap (λ (l : List ℕ). from_le_bytes w64 (take 8 l)) (drop_at before (number_bytes n ++ after) at long)
    ∙ ap (λ (l : List ℕ). from_le_bytes w64 l) (take_at (number_bytes n) after 8 (length-number_bytes n))
    ∙ number_bytes-read n small

-- each of a list of bytes is below 256, and so is what is read past its end
byte-read : (bytes : List ℕ) → All (λ b. b < 256) bytes → (i : ℕ) → get_or bytes i 0 < 256
byte-read bytes each i = go (cases_lt i (length bytes))
  where
    go : (i < length bytes) ⊎ (length bytes ≤ i) → get_or bytes i 0 < 256
    go (inl below) = All-get_or (λ b. b < 256) bytes i 0 below each
    go (inr past) = omega (arith, get_or_past bytes i 0 past)

-- bytes are those of the number that they are read as
pub number_bytes-number_at : (bytes : List ℕ) (at : ℕ) → at + 8 ≤ length bytes → All (λ b. b < 256) bytes → number_bytes (number_at bytes at) ≡ part bytes at 8
unfolding number_at number_bytes
number_bytes-number_at bytes at fits each =
    le_bytes_8 (part bytes at 8) (from_le_bytes w64 (part bytes at 8)) (length-part at 8 bytes fits)
    (byte-read (part bytes at 8) (All-take (λ b. b < 256) 8 (drop at bytes) (All-drop (λ b. b < 256) at bytes each)))
    refl

-- four fields, one after the other
pub put-head : (a b c d z first second third fourth : List ℕ) → length a ≡ 8 → length b ≡ 8 → length c ≡ 8 → length d ≡ 8 → 32 ≤ length z
    → first ≡ put 0 a z → second ≡ put 8 b first → third ≡ put 16 c second → fourth ≡ put 24 d third → fourth ≡ put 0 (a ++ b ++ c ++ d) z
put-head a b c d z first second third fourth la lb lc ld fits e1 e2 e3 e4 =
    let lab = length-append a b in
    let labc = length-append (a ++ b) c in
    let at_b : 8 ≡ 0 + length a = omega (arith, la) in
    let at_c : 16 ≡ 0 + length (a ++ b) = omega (arith, la, lb, lab) in
    let at_d : 24 ≡ 0 + length (a ++ b ++ c) = omega (arith, la, lb, lc, lab, labc) in
    let two : second ≡ put 0 (a ++ b) z = e2 ∙ ap (λ (l : List ℕ). put 8 b l) e1 ∙ ap (λ (k : ℕ). put k b (put 0 a z)) at_b
    ∙ put-put_behind 0 a b z (omega (arith, la, lb, fits)) in
    let three : third ≡ put 0 (a ++ b ++ c) z = e3 ∙ ap (λ (l : List ℕ). put 16 c l) two ∙ ap (λ (k : ℕ). put k c (put 0 (a ++ b) z)) at_c
    ∙ put-put_behind 0 (a ++ b) c z (omega (arith, la, lb, lc, lab, fits)) in
    e4 ∙ ap (λ (l : List ℕ). put 24 d l) three ∙ ap (λ (k : ℕ). put k d (put 0 (a ++ b ++ c) z)) at_d
    ∙ put-put_behind 0 (a ++ b ++ c) d z (omega (arith, la, lb, lc, ld, lab, labc, fits))

-- zeros in parts, the first two of one length
zeros-parted : (m n k rest : ℕ) (z : List ℕ) → z ≡ replicate n 0 → n ≡ m + m + (k + rest)
    → z ≡ replicate m 0 ++ (replicate m 0 ++ (replicate k 0 ++ replicate rest 0))
zeros-parted m n k rest z is whole =
    is ∙ ap (λ (i : ℕ). replicate i 0) (let e : n ≡ m + (m + (k + rest)) = omega arith in e)
    ∙ sym (ap (λ (l : List ℕ). replicate m 0 ++ (replicate m 0 ++ l)) (replicate-append-replicate k rest 0)
    ∙ ap (λ (l : List ℕ). replicate m 0 ++ l) (replicate-append-replicate m (k + rest) 0)
    ∙ replicate-append-replicate m (m + (k + rest)) 0)

-- a head and a payload put over zeros
pub put-payload : (m n rest : ℕ) (head payload z : List ℕ) → length head ≡ m → z ≡ replicate n 0 → n ≡ m + m + (length payload + rest)
    → put (m + m) payload (put 0 head z) ≡ head ++ (replicate m 0 ++ (payload ++ replicate rest 0))
put-payload m n rest head payload z lh is whole =
    let gap : List ℕ = replicate m 0 in
    let old : List ℕ = replicate (length payload) 0 in
    let tail : List ℕ = replicate rest 0 in
    let lg : length gap ≡ m = length-replicate m 0 in
    let headed : put 0 head z ≡ head ++ (gap ++ (old ++ tail)) = ap (λ (l : List ℕ). put 0 head l) (zeros-parted m n (length payload) rest z is whole)
    ∙ put-between 0 head [] gap (gap ++ (old ++ tail)) (omega arith) (lg ∙ sym lh) in
    ap (λ (l : List ℕ). put (m + m) payload l) (headed ∙ sym (append_assoc head gap (old ++ tail)))
    ∙ put-between (m + m) payload (head ++ gap) old tail (length-append head gap ∙ omega (arith, lh, lg)) (length-replicate (length payload) 0)
    ∙ append_assoc head gap (payload ++ tail)
