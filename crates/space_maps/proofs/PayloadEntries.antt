-- Entries of a payload: they read back, and stay if another one is written.
use Rattle.std.proofs.Common.{◌≡◌, ◌≢◌, ℕ, ◌+◌, ◌-◌, ◌*◌, ◌^◌, ◌≤◌, ◌<◌, List, length, take, replicate, ap, ◌∙◌, arith, ◌⊎◌, inl, inr}
use Rattle.std.proofs.lemmas.List.{drop-replicate, take-replicate}
use Rattle.std.proofs.lemmas.Bool.{cases_lt}
use Rattle.std.specs.Int.{from_le_bytes, w64}
use Rattle.mapped_labels.specs.declared.map_entry.MapEntry.{MapEntry}
use Rattle.base.specs.disk.Disk.{put, Apart}
use Rattle.base.specs.formats.Fields.{number_at, part}
use Rattle.mapped_labels.specs.Entries.{map_entry_bytes, no_entry}
use Rattle.mapped_labels.proofs.EntriesRead.{length-map_entry_bytes, map_entry_at-put, map_entry_at-put_apart, same_entry}
use Rattle.checked_blocks.specs.Sealing.{zeros}
use Rattle.space_maps.specs.Nodes.{map_entry_in}

pub map_entry_in-put : (index : ℕ) (e : MapEntry) (bytes : List ℕ) → length bytes ≡ 4032 → index < 72 → e.pointer.address < 2 ^ 64 → e.pointer.birth < 2 ^ 64
    → length e.pointer.check ≡ 32 → e.count < 2 ^ 64 → map_entry_in (put (56 * index) (map_entry_bytes e) bytes) index ≡ e
map_entry_in-put index e bytes long low address birth check count = map_entry_at-put (56 * index) e bytes (omega (arith, long, low)) address birth check count

pub map_entry_in-put_other : (index other : ℕ) (e : MapEntry) (bytes : List ℕ) → length bytes ≡ 4032 → index < 72 → length e.pointer.check ≡ 32 → other ≢ index
    → map_entry_in (put (56 * index) (map_entry_bytes e) bytes) other ≡ map_entry_in bytes other
map_entry_in-put_other index other e bytes long low check ne =
    let size = length-map_entry_bytes e check in
    map_entry_at-put_apart (56 * index) (map_entry_bytes e) bytes (56 * other) (omega (arith, size, long, low)) (side (cases_lt other index))
  where
    side : (other < index) ⊎ (index ≤ other) → Apart (56 * index) (length (map_entry_bytes e)) (56 * other) 56
    side (inl before) = inr (omega (arith, before))
    side (inr behind) = let size = length-map_entry_bytes e check in let after : index < other = omega (arith, ne, behind) in inl (omega (arith, size, after))

-- zeros have no entries
zero_part : (size at n : ℕ) → at + n ≤ size → part (zeros size) at n ≡ replicate n 0
unfolding zeros
zero_part size at n fits =
    ap (λ (l : List ℕ). take n l) (drop-replicate {X = ℕ} at size 0) ∙ take-replicate {X = ℕ} n (size - at) 0 (omega (arith, fits))

zero_number : (size at : ℕ) → at + 8 ≤ size → number_at (zeros size) at ≡ 0
unfolding number_at
zero_number size at fits = ap (λ (l : List ℕ). from_le_bytes w64 l) (zero_part size at 8 fits)

pub zero_entry : (e : ℕ) → e < 72 → map_entry_in (zeros 4032) e ≡ no_entry
zero_entry e low =
    same_entry (zero_number 4032 (56 * e) (omega (arith, low))) (zero_number 4032 (56 * e + 8) (omega (arith, low)))
    (zero_part 4032 (56 * e + 16) 32 (omega (arith, low))) (zero_number 4032 (56 * e + 48) (omega (arith, low)))
