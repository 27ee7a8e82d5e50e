-- Fields that lie one after the other.
use Rattle.std.proofs.Common.{ℕ, ◌≡◌, ◌+◌, ◌^◌, ◌<◌, List, ◌++◌, length, take, drop, refl, sym, ap, ◌∙◌, arith}
use Rattle.std.proofs.lemmas.List.{take_at, drop_at, drop-drop, append_assoc}
use Rattle.std.specs.Int.{from_le_bytes, w64}
use Rattle.base.specs.formats.Fields.{part, number_at, number_bytes, pointer_at, pointer_bytes}
use Rattle.base.specs.declared.pointer.Pointer.{Pointer}
use Rattle.base.proofs.formats.FieldsRead.{length-number_bytes, number_bytes-read, length-pointer_bytes}

-- what is left from a place on begins with a field: the field stands there, and the rest is left after it
pub part_first : (bytes field rest : List ℕ) (at size : ℕ) → drop at bytes ≡ field ++ rest → length field ≡ size → part bytes at size ≡ field
part_first bytes field rest at size left long = ap (λ (l : List ℕ). take size l) left ∙ take_at field rest size long

pub drop_first : (bytes field rest : List ℕ) (at size : ℕ) → drop at bytes ≡ field ++ rest → length field ≡ size → drop (at + size) bytes ≡ rest
drop_first bytes field rest at size left long = sym (drop-drop size at bytes) ∙ ap (λ (l : List ℕ). drop size l) left ∙ drop_at field rest size long

pub number_first : (bytes rest : List ℕ) (at n : ℕ) → drop at bytes ≡ number_bytes n ++ rest → n < 2 ^ 64 → number_at bytes at ≡ n
unfolding number_at
number_first bytes rest at n left small =
    ap (λ (l : List ℕ). from_le_bytes w64 l) (part_first bytes (number_bytes n) rest at 8 left (length-number_bytes n)) ∙ number_bytes-read n small

pub number_behind : (bytes rest : List ℕ) (at n : ℕ) → drop at bytes ≡ number_bytes n ++ rest → drop (at + 8) bytes ≡ rest
number_behind bytes rest at n left = drop_first bytes (number_bytes n) rest at 8 left (length-number_bytes n)

-- the three parts of a pointer, and what is after it
pub pointer_parts : (bytes rest : List ℕ) (at : ℕ) (p : Pointer) → drop at bytes ≡ pointer_bytes p ++ rest → drop at bytes ≡ number_bytes p.address ++ (number_bytes p.birth ++ (p.check ++ rest))
pointer_parts bytes rest at p left =
    left ∙ append_assoc (number_bytes p.address) (number_bytes p.birth ++ p.check) rest
    ∙ ap (λ (l : List ℕ). number_bytes p.address ++ l) (append_assoc (number_bytes p.birth) p.check rest)

pub pointer_first : (bytes rest : List ℕ) (at : ℕ) (p : Pointer) → drop at bytes ≡ pointer_bytes p ++ rest → p.address < 2 ^ 64 → p.birth < 2 ^ 64 → length p.check ≡ 32
    → pointer_at bytes at ≡ p
pointer_first bytes rest at p left small low long =
    let first = pointer_parts bytes rest at p left in
    let second = number_behind bytes (number_bytes p.birth ++ (p.check ++ rest)) at p.address first in
    let third = number_behind bytes (p.check ++ rest) (at + 8) p.birth second in
    same (number_first bytes _ at p.address first small) (number_first bytes _ (at + 8) p.birth second low) (part_first bytes p.check rest (at + 16) 32 (sixteen third) long)
  where
    sixteen : drop (at + 8 + 8) bytes ≡ p.check ++ rest → drop (at + 16) bytes ≡ p.check ++ rest
    sixteen e = ap (λ (k : ℕ). drop k bytes) (omega arith) ∙ e

    same : {x y : ℕ} {z : List ℕ} → x ≡ p.address → y ≡ p.birth → z ≡ p.check → record { address = x; birth = y; check = z } ≡ p
    same e f g = rw (e, f, g) refl

pub pointer_behind : (bytes rest : List ℕ) (at : ℕ) (p : Pointer) → drop at bytes ≡ pointer_bytes p ++ rest → length p.check ≡ 32 → drop (at + 48) bytes ≡ rest
pointer_behind bytes rest at p left long = drop_first bytes (pointer_bytes p) rest at 48 left (length-pointer_bytes p long)
