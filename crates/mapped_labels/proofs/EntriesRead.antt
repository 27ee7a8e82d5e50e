-- Entries of a map in bytes: they read back, and stay if something else is written.
use Rattle.std.proofs.Common.{◌≡◌, ℕ, ◌+◌, ◌^◌, ◌≤◌, ◌<◌, List, length, refl, ap, sym, ◌∙◌, arith, inl, inr}
use Rattle.std.proofs.lemmas.List.{length-append}
use Rattle.base.specs.declared.pointer.Pointer.{Pointer}
use Rattle.mapped_labels.specs.declared.map_entry.MapEntry.{MapEntry}
use Rattle.base.specs.disk.Disk.{put, Apart}
use Rattle.base.specs.formats.Fields.{number_at, number_bytes, pointer_at, pointer_bytes}
use Rattle.mapped_labels.specs.Entries.{map_entry_at, map_entry_bytes}
use Rattle.base.proofs.disk.Put.{length-put, part-put_apart}
use Rattle.base.proofs.formats.FieldsRead.{length-number_bytes, length-pointer_bytes, number_at-put, number_at-put_apart, pointers_read_back, put-put_behind}

pub length-map_entry_bytes : (e : MapEntry) → length e.pointer.check ≡ 32 → length (map_entry_bytes e) ≡ 56
length-map_entry_bytes e long =
    length-append (pointer_bytes e.pointer) (number_bytes e.count) ∙ omega (arith, length-pointer_bytes e.pointer long, length-number_bytes e.count)

-- a pointer and a count, one after the other
pub put-entry : (at : ℕ) (e : MapEntry) (bytes first second : List ℕ) → length e.pointer.check ≡ 32 → at + 56 ≤ length bytes
    → first ≡ put at (pointer_bytes e.pointer) bytes → second ≡ put (at + 48) (number_bytes e.count) first → second ≡ put at (map_entry_bytes e) bytes
put-entry at e bytes first second long fits e1 e2 =
    let lp = length-pointer_bytes e.pointer long in
    let behind : at + 48 ≡ at + length (pointer_bytes e.pointer) = omega (arith, lp) in
    e2 ∙ ap (λ (l : List ℕ). put (at + 48) (number_bytes e.count) l) e1
    ∙ ap (λ (k : ℕ). put k (number_bytes e.count) (put at (pointer_bytes e.pointer) bytes)) behind
    ∙ put-put_behind at (pointer_bytes e.pointer) (number_bytes e.count) bytes (omega (arith, lp, length-number_bytes e.count, fits))

-- entries with the same fields are the same
pub same_entry : {x y z w : ℕ} {a b : List ℕ} {m n : ℕ} → x ≡ y → z ≡ w → a ≡ b → m ≡ n
    → ◌≡◌ {A = MapEntry} (record { pointer = record { address = x; birth = z; check = a }; count = m }) (record { pointer = record { address = y; birth = w; check = b }; count = n })
same_entry e f g h = rw (e, f, g, h) refl

-- an entry stays if something else is written
pub map_entry_at-put_apart : (place : ℕ) (content bytes : List ℕ) (at : ℕ) → place + length content ≤ length bytes → Apart place (length content) at 56
    → map_entry_at (put place content bytes) at ≡ map_entry_at bytes at
map_entry_at-put_apart place content bytes at fits apart =
    same_entry (number_at-put_apart place content bytes at fits (first apart))
    (number_at-put_apart place content bytes (at + 8) fits (within 8 8 apart (omega arith)))
    (part-put_apart place content bytes (at + 16) 32 fits (within 16 32 apart (omega arith)))
    (number_at-put_apart place content bytes (at + 48) fits (within 48 8 apart (omega arith)))
  where
    first : Apart place (length content) at 56 → Apart place (length content) at 8
    first (inl before) = inl before
    first (inr behind) = inr (omega (arith, behind))

    within : (i n : ℕ) → Apart place (length content) at 56 → i + n ≤ 56 → Apart place (length content) (at + i) n
    within i n (inl before) low = inl (omega (arith, before))
    within i n (inr behind) low = inr (omega (arith, behind, low))

-- a written entry reads back
pub map_entry_at-put : (at : ℕ) (e : MapEntry) (bytes : List ℕ) → at + 56 ≤ length bytes → e.pointer.address < 2 ^ 64 → e.pointer.birth < 2 ^ 64
    → length e.pointer.check ≡ 32 → e.count < 2 ^ 64 → map_entry_at (put at (map_entry_bytes e) bytes) at ≡ e
map_entry_at-put at e bytes fits address birth check count =
    let lp = length-pointer_bytes e.pointer check in
    let ln = length-number_bytes e.count in
    let one : List ℕ = put at (pointer_bytes e.pointer) bytes in
    let two : List ℕ = put (at + 48) (number_bytes e.count) one in
    let l1 : length one ≡ length bytes = length-put at (pointer_bytes e.pointer) bytes (omega (arith, lp, fits)) in
    let whole : two ≡ put at (map_entry_bytes e) bytes = put-entry at e bytes one two check fits refl refl in
    let pointer : pointer_at two at ≡ e.pointer = pointer-kept one (omega (arith, l1, ln, fits)) ∙ pointers_read_back at e.pointer bytes (omega (arith, fits)) address birth check in
    let counted : number_at two (at + 48) ≡ e.count = number_at-put (at + 48) e.count one (omega (arith, l1, fits)) count in
    ap (λ (l : List ℕ). map_entry_at l at) (sym whole) ∙ same pointer counted
  where
    pointer-kept : (one : List ℕ) → at + 48 + length (number_bytes e.count) ≤ length one → pointer_at (put (at + 48) (number_bytes e.count) one) at ≡ pointer_at one at
    pointer-kept one within =
        three (number_at-put_apart (at + 48) (number_bytes e.count) one at within (inr (omega arith)))
        (number_at-put_apart (at + 48) (number_bytes e.count) one (at + 8) within (inr (omega arith)))
        (part-put_apart (at + 48) (number_bytes e.count) one (at + 16) 32 within (inr (omega arith)))
      where
        three : {x y z w : ℕ} {a b : List ℕ} → x ≡ y → z ≡ w → a ≡ b → ◌≡◌ {A = Pointer} (record { address = x; birth = z; check = a }) (record { address = y; birth = w; check = b })
        three e f g = rw (e, f, g) refl

    same : {p : Pointer} {n : ℕ} → p ≡ e.pointer → n ≡ e.count → ◌≡◌ {A = MapEntry} (record { pointer = p; count = n }) e
    same f g = rw (f, g) refl
