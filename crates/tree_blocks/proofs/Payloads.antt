-- The payloads of the blocks of a tree.
use Rattle.std.proofs.Common.{◌≡◌, ℕ, ◌+◌, ◌*◌, ◌≤◌, ◌<◌, ◌≢◌, ◌^◌, ◌⊎◌, inl, inr, List, length, refl, arith}
use Rattle.std.proofs.lemmas.List.{append-nil}
use Rattle.std.proofs.lemmas.Bool.{cases_lt}
use Rattle.base.specs.declared.pointer.Pointer.{Pointer}
use Rattle.base.specs.disk.Disk.{put}
use Rattle.base.specs.formats.Fields.{pointer_bytes, pointer_at, pointer_in}
use Rattle.base.proofs.disk.Put.{Apart, part-put_apart}
use Rattle.base.proofs.formats.FieldsRead.{number_at-put_apart, pointers_read_back, length-pointer_bytes}
use Rattle.checked_blocks.specs.Sealing.{padded}

-- a payload that is full has no zeros after it
pub padded-full : (payload : List ℕ) → length payload ≡ 4032 → padded payload ≡ payload
padded-full payload long = rw long (append-nil payload)

-- a pointer stays if something else is written
pub pointer_at-put_apart : (place : ℕ) (content bytes : List ℕ) (at : ℕ) → place + length content ≤ length bytes → Apart place (length content) at 48
    → pointer_at (put place content bytes) at ≡ pointer_at bytes at
pointer_at-put_apart place content bytes at fits apart =
    same (number_at-put_apart place content bytes at fits (first apart))
    (number_at-put_apart place content bytes (at + 8) fits (within 8 8 apart (omega arith)))
    (part-put_apart place content bytes (at + 16) 32 fits (within 16 32 apart (omega arith)))
  where
    first : Apart place (length content) at 48 → Apart place (length content) at 8
    first (inl before) = inl before
    first (inr behind) = inr (omega arith)

    within : (i n : ℕ) → Apart place (length content) at 48 → i + n ≤ 48 → Apart place (length content) (at + i) n
    within i n (inl before) low = inl (omega arith)
    within i n (inr behind) low = inr (omega arith)

    same : {x y z w : ℕ} {a b : List ℕ} → x ≡ y → z ≡ w → a ≡ b → ◌≡◌ {A = Pointer} (record { address = x; birth = z; check = a }) (record { address = y; birth = w; check = b })
    same e f g = rw (e, f, g) refl

pub pointer_in-put : (index : ℕ) (p : Pointer) (bytes : List ℕ) → length bytes ≡ 4032 → index < 84 → p.address < 2 ^ 64 → p.birth < 2 ^ 64 → length p.check ≡ 32
    → pointer_in (put (48 * index) (pointer_bytes p) bytes) index ≡ p
pointer_in-put index p bytes long low address birth check = pointers_read_back (48 * index) p bytes (omega arith) address birth check

pub pointer_in-put_other : (index r : ℕ) (p : Pointer) (bytes : List ℕ) → length bytes ≡ 4032 → index < 84 → length p.check ≡ 32 → r ≢ index
    → pointer_in (put (48 * index) (pointer_bytes p) bytes) r ≡ pointer_in bytes r
pointer_in-put_other index r p bytes long low check ne =
    let size = length-pointer_bytes p check in
    pointer_at-put_apart (48 * index) (pointer_bytes p) bytes (48 * r) (omega arith) (side (cases_lt r index))
  where
    side : (r < index) ⊎ (index ≤ r) → Apart (48 * index) (length (pointer_bytes p)) (48 * r) 48
    side (inl before) = let size = length-pointer_bytes p check in inr (omega arith)
    side (inr behind) = let size = length-pointer_bytes p check in let after : index < r = omega (arith, ne) in inl (omega arith)
