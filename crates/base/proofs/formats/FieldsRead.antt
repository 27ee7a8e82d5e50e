-- Fields that are written, and read back.
use Rattle.std.proofs.Common.{◌≡◌, ℕ, ◌+◌, ◌-◌, ◌^◌, ◌<◌, ◌≤◌, List, [], ◌++◌, length, take, drop, refl, sym, ◌∙◌, ap, append_assoc, arith, inr}
use Rattle.std.proofs.lemmas.List.{take_rest, length-drop, drop_all, drop-drop, append-nil, take_at, drop_at, length-append, length-take-le}
use Rattle.std.proofs.lemmas.Nat.{from_le_bytes-to_le_bytes_8}
use Rattle.std.specs.Int.{from_le_bytes, w64}
use borrow.Rule.Slice.PartMut.{put_mid}
use Rattle.base.specs.disk.Disk.{put, Apart}
use Rattle.base.specs.formats.Fields.{part, number_at, number_bytes, pointer_at, pointer_bytes}
use Rattle.base.specs.declared.pointer.Pointer.{Pointer}
use Rattle.base.proofs.disk.Put.{length-put, part-put_same, part-put_apart}

-- what stood from a place on, with a field over its front, put back
pub put_mid-put : (at : ℕ) (xs new field : List ℕ) → at + length field ≤ length xs
    → new ≡ field ++ drop (length field) (take (length xs - at) (drop at xs))
    → put_mid at (length xs - at) xs new ≡ put at field xs
put_mid-put at xs new field fits is =
    let past : drop (length xs - at) (drop at xs) ≡ [] = drop_all (length xs - at) (drop at xs) (rw (length-drop at xs) omega arith) in
    rw (is, take_rest xs at, past, append-nil (field ++ drop (length field) (drop at xs)), drop-drop (length field) at xs) refl

pub length-number_bytes : (n : ℕ) → length (number_bytes n) ≡ 8
unfolding number_bytes
length-number_bytes n = refl

pub length-pointer_bytes : (p : Pointer) → length p.check ≡ 32 → length (pointer_bytes p) ≡ 48
length-pointer_bytes p long =
    length-append (number_bytes p.address) (number_bytes p.birth ++ p.check)
    ∙ omega (arith, length-number_bytes p.address, length-append (number_bytes p.birth) p.check, length-number_bytes p.birth, long)

pub number_bytes-read : (n : ℕ) → n < 2 ^ 64 → from_le_bytes w64 (number_bytes n) ≡ n
unfolding number_bytes
number_bytes-read n small = from_le_bytes-to_le_bytes_8 n small

-- a number reads back
pub number_at-put : (at n : ℕ) (bytes : List ℕ) → at + 8 ≤ length bytes → n < 2 ^ 64 → number_at (put at (number_bytes n) bytes) at ≡ n
unfolding number_at
number_at-put at n bytes fits small =
    let long = length-number_bytes n in
    let same : part (put at (number_bytes n) bytes) at 8 ≡ number_bytes n =
    ap (λ (k : ℕ). part (put at (number_bytes n) bytes) at k) (sym long) ∙ part-put_same at (number_bytes n) bytes (omega (arith, fits, long)) in
    ap (λ (l : List ℕ). from_le_bytes w64 l) same ∙ number_bytes-read n small

-- and is the same where something else is written
pub number_at-put_apart : (place : ℕ) (content bytes : List ℕ) (at : ℕ) → place + length content ≤ length bytes → Apart place (length content) at 8
    → number_at (put place content bytes) at ≡ number_at bytes at
unfolding number_at
number_at-put_apart place content bytes at fits apart =
    ap (λ (l : List ℕ). from_le_bytes w64 l) (part-put_apart place content bytes at 8 fits apart)

-- what is put after what was put, as one
pub put-put_behind : (at : ℕ) (first second bytes : List ℕ) → at + length first + length second ≤ length bytes
    → put (at + length first) second (put at first bytes) ≡ put at (first ++ second) bytes
put-put_behind at first second bytes fits =
    let whole : List ℕ = take at bytes ++ (first ++ drop (at + length first) bytes) in
    let front : List ℕ = take at bytes ++ first in
    let joined : whole ≡ front ++ drop (at + length first) bytes = sym (append_assoc (take at bytes) first (drop (at + length first) bytes)) in
    let long : length front ≡ at + length first = rw (length-append (take at bytes) first, length-take-le at bytes (omega (arith, fits))) refl in
    let head : take (at + length first) whole ≡ front = ap (λ (l : List ℕ). take (at + length first) l) joined ∙ take_at front (drop (at + length first) bytes) (at + length first) long in
    let tail : drop (at + length first) whole ≡ drop (at + length first) bytes = ap (λ (l : List ℕ). drop (at + length first) l) joined ∙ drop_at front (drop (at + length first) bytes) (at + length first) long in
    let rest : drop (at + length first + length second) whole ≡ drop (at + length (first ++ second)) bytes =
    sym (drop-drop (length second) (at + length first) whole) ∙ ap (λ (l : List ℕ). drop (length second) l) tail ∙ drop-drop (length second) (at + length first) bytes
    ∙ ap (λ (k : ℕ). drop k bytes) (omega (arith, length-append first second)) in
    ap (λ (l : List ℕ). l ++ (second ++ drop (at + length first + length second) whole)) head
    ∙ ap (λ (l : List ℕ). front ++ (second ++ l)) rest
    ∙ append_assoc (take at bytes) first (second ++ drop (at + length (first ++ second)) bytes)
    ∙ ap (λ (l : List ℕ). take at bytes ++ l) (sym (append_assoc first second (drop (at + length (first ++ second)) bytes)))

-- three fields, one after the other
pub put-three : (at : ℕ) (a b c bytes : List ℕ) → at + length a + length b + length c ≤ length bytes
    → put at (a ++ (b ++ c)) bytes ≡ put (at + length a + length b) c (put (at + length a) b (put at a bytes))
put-three at a b c bytes fits =
    let lab = length-append a b in
    let one = put-put_behind at a b bytes (omega (arith, fits)) in
    ap (λ (l : List ℕ). put at l bytes) (sym (append_assoc a b c))
    ∙ sym (put-put_behind at (a ++ b) c bytes (omega (arith, lab, fits)))
    ∙ ap (λ (k : ℕ). put k c (put at (a ++ b) bytes)) (omega (arith, lab))
    ∙ ap (λ (l : List ℕ). put (at + length a + length b) c l) (sym one)

pub pointers_read_back : (at : ℕ) (p : Pointer) (bytes : List ℕ) → at + 48 ≤ length bytes → p.address < 2 ^ 64 → p.birth < 2 ^ 64 → length p.check ≡ 32
    → pointer_at (put at (pointer_bytes p) bytes) at ≡ p
pointers_read_back at p bytes fits small low long =
    let la = length-number_bytes p.address in
    let lb = length-number_bytes p.birth in
    let one : List ℕ = put at (number_bytes p.address) bytes in
    let two : List ℕ = put (at + 8) (number_bytes p.birth) one in
    let three : List ℕ = put (at + 16) p.check two in
    let l1 : length one ≡ length bytes = length-put at (number_bytes p.address) bytes (omega (arith, la, fits)) in
    let l2 : length two ≡ length bytes = length-put (at + 8) (number_bytes p.birth) one (omega (arith, lb, l1, fits)) ∙ l1 in
    let whole : put at (pointer_bytes p) bytes ≡ three = put-three at (number_bytes p.address) (number_bytes p.birth) p.check bytes (omega (arith, la, lb, long, fits))
    ∙ ap (λ (k : ℕ). put (at + k + length (number_bytes p.birth)) p.check (put (at + k) (number_bytes p.birth) one)) la
    ∙ ap (λ (k : ℕ). put k p.check two) (omega (arith, lb)) in
    let address : number_at three at ≡ p.address = number_at-put_apart (at + 16) p.check two at (omega (arith, l2, long, fits)) (inr (omega arith))
    ∙ number_at-put_apart (at + 8) (number_bytes p.birth) one at (omega (arith, lb, l1, fits)) (inr (omega arith))
    ∙ number_at-put at p.address bytes (omega (arith, fits)) small in
    let birth : number_at three (at + 8) ≡ p.birth = number_at-put_apart (at + 16) p.check two (at + 8) (omega (arith, l2, long, fits)) (inr (omega arith))
    ∙ number_at-put (at + 8) p.birth one (omega (arith, l1, fits)) low in
    let check : part three (at + 16) 32 ≡ p.check = ap (λ (k : ℕ). part three (at + 16) k) (sym long)
    ∙ part-put_same (at + 16) p.check two (omega (arith, l2, long, fits)) in
    ap (λ (l : List ℕ). pointer_at l at) whole ∙ same address birth check
  where
    same : {x y : ℕ} {z : List ℕ} → x ≡ p.address → y ≡ p.birth → z ≡ p.check → record { address = x; birth = y; check = z } ≡ p
    same e f g = rw (e, f, g) refl

-- three numbers and some bytes, put one after the other
pub put-fields : (a b c name z first second third fourth : List ℕ) → length a ≡ 8 → length b ≡ 8 → length c ≡ 8 → 24 + length name ≤ length z
    → first ≡ put 0 a z → second ≡ put 8 b first → third ≡ put 16 c second → fourth ≡ put 24 name third → take (24 + length name) fourth ≡ a ++ b ++ c ++ name
put-fields a b c name z first second third fourth la lb lc fits e1 e2 e3 e4 =
    let lab = length-append a b in
    let labc = length-append (a ++ b) c in
    let whole : List ℕ = a ++ b ++ c ++ name in
    let at_b : 8 ≡ 0 + length a = omega (arith, la) in
    let at_c : 16 ≡ 0 + length (a ++ b) = omega (arith, la, lb, lab) in
    let at_name : 24 ≡ 0 + length (a ++ b ++ c) = omega (arith, la, lb, lc, lab, labc) in
    let two : second ≡ put 0 (a ++ b) z = e2 ∙ ap (λ (l : List ℕ). put 8 b l) e1 ∙ ap (λ (k : ℕ). put k b (put 0 a z)) at_b
    ∙ put-put_behind 0 a b z (omega (arith, la, lb, fits)) in
    let three : third ≡ put 0 (a ++ b ++ c) z = e3 ∙ ap (λ (l : List ℕ). put 16 c l) two ∙ ap (λ (k : ℕ). put k c (put 0 (a ++ b) z)) at_c
    ∙ put-put_behind 0 (a ++ b) c z (omega (arith, la, lb, lc, lab, fits)) in
    let four : fourth ≡ put 0 whole z = e4 ∙ ap (λ (l : List ℕ). put 24 name l) three ∙ ap (λ (k : ℕ). put k name (put 0 (a ++ b ++ c) z)) at_name
    ∙ put-put_behind 0 (a ++ b ++ c) name z (omega (arith, la, lb, lc, lab, labc, fits)) in
    ap (λ (l : List ℕ). take (24 + length name) l) four
    ∙ take_at whole (drop (0 + length whole) z) (24 + length name) (length-append (a ++ b ++ c) name ∙ omega (arith, la, lb, lc, lab, labc))
