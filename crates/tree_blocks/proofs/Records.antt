-- The bytes of an object in its records: a record by its bytes, and parts that are read record by record.
use Rattle.std.proofs.Common.{◌≡◌, ℕ, ◌+◌, ◌-◌, ◌≤◌, ◌<◌, ◌*◌, ◌⊎◌, inl, inr, List, ◌++◌, length, take, drop, replicate, refl, ap, sym, ◌∙◌, arith, length-take, length-drop, length-append, get_or, get_or-take, get_or-drop}
use Rattle.std.specs.Prelude.{min}
use Rattle.std.proofs.lemmas.List.{ext_get_or, get_or_past, get_or_append_left, get_or-append_right, length-replicate}
use Rattle.std.proofs.lemmas.Bool.{cases_lt}
use Rattle.std.proofs.Math.Seq.{take-add, take-append_seam}
use Rattle.base.specs.formats.Limits.{record_size}
use Rattle.base.specs.kept.PlacedTrees.{padded_record}
use Rattle.base.specs.tree.Tree.{record_bytes}
use Rattle.base.proofs.common.KeptLists.{get_or-zeros}
use Rattle.tree_blocks.specs.Sources.{AreBytesFrom}

-- a byte of a record, and one that is not there
pub length-record : (index : ℕ) (bytes : List ℕ) → length (padded_record index bytes) ≡ 4032
length-record index bytes =
    let short : length (take 4032 (drop (4032 * index) bytes)) ≤ 4032 = rw length-take (omega arith) in
    simp (length-append, length-replicate) (omega arith)

pub get_or-record : (index : ℕ) (bytes : List ℕ) (k : ℕ) → k < 4032 → get_or (padded_record index bytes) k 0 ≡ get_or bytes (4032 * index + k) 0
get_or-record index bytes k inside = go (cases_lt k (length part))
  where
    part : List ℕ
    part = take 4032 (drop (4032 * index) bytes)

    long : length part ≡ min 4032 (length bytes - 4032 * index)
    long = rw (length-take, length-drop) refl

    go : (k < length part) ⊎ (length part ≤ k) → get_or (part ++ replicate (4032 - length part) 0) k 0 ≡ get_or bytes (4032 * index + k) 0
    go (inl l) =
        get_or_append_left part (replicate (4032 - length part) 0) 0 k l ∙ get_or-take 4032 (drop (4032 * index) bytes) k 0 inside
        ∙ get_or-drop (4032 * index) bytes k 0
    go (inr g) =
        get_or-append_right part (replicate (4032 - length part) 0) (length part) k 0 refl g ∙ get_or-zeros (4032 - length part) (k - length part)
        ∙ sym (get_or_past bytes (4032 * index + k) 0 (omega (arith, long)))

-- the part of a record from its front on, as long as a record, is the record
pub whole_record_read : (object bytes : List ℕ) (index : ℕ) → length bytes ≡ 4032 → AreBytesFrom (4032 * index + 0) object bytes → bytes ≡ padded_record index object
whole_record_read object bytes index long reads =
    ext_get_or 0 _ _ (long ∙ sym (length-record index object)) (λ k l.
    let inside : k < 4032 = rw long at l in
    let same : 4032 * index + 0 + k ≡ 4032 * index + k = omega arith in
    reads k l ∙ ap (λ (j : ℕ). get_or object j 0) same ∙ sym (get_or-record index object k inside))

-- bytes of an object that were copied from an offset on, and zeros after its end
module _ (object into copied filled post : List ℕ) (offset low count : ℕ) (is_low : low ≡ min offset (length object)) (is_count : count ≡ min (length into) (length object - low))
    (is : copied ≡ take (low + count - low) (drop low object)) (zeros : (j : ℕ) → j < length filled → get_or filled j 0 ≡ 0) (size : length filled ≡ length into - count) where
  pub copied_bytes : (k : ℕ) → k < length into → get_or (take count (copied ++ drop count into) ++ (filled ++ post)) k 0 ≡ get_or object (offset + k) 0
  copied_bytes k inside = go (cases_lt k count)
    where
      long : length copied ≡ count
      long = ap length is ∙ length-take (low + count - low) (drop low object) ∙ rw (length-drop low object) (omega (arith, is_low, is_count))

      front : length (take count (copied ++ drop count into)) ≡ count
      front = length-take count (copied ++ drop count into) ∙ rw (length-append, long) (omega arith)

      go : (k < count) ⊎ (count ≤ k) → get_or (take count (copied ++ drop count into) ++ (filled ++ post)) k 0 ≡ get_or object (offset + k) 0
      go (inl before) =
          let same : low + k ≡ offset + k = omega (arith, is_low, is_count, before) in
          get_or_append_left (take count (copied ++ drop count into)) (filled ++ post) 0 k (rw front before) ∙ get_or-take count (copied ++ drop count into) k 0 before
          ∙ get_or_append_left copied (drop count into) 0 k (rw long before) ∙ ap (λ (l : List ℕ). get_or l k 0) is
          ∙ get_or-take (low + count - low) (drop low object) k 0 (omega (arith, before)) ∙ get_or-drop low object k 0 ∙ ap (λ (j : ℕ). get_or object j 0) same
      go (inr from) =
          get_or-append_right (take count (copied ++ drop count into)) (filled ++ post) count k 0 front from
          ∙ get_or_append_left filled post 0 (k - count) (rw size (omega (arith, inside, from))) ∙ zeros (k - count) (rw size (omega (arith, inside, from)))
          ∙ sym (get_or_past object (offset + k) 0 (omega (arith, is_low, is_count, inside, from)))

-- the front of a record, as far as the object reaches
pub take-padded_record : (bytes : List ℕ) (r count : ℕ) → count ≡ min record_size (length bytes - record_size * r) → take count (padded_record r bytes) ≡ record_bytes r bytes
take-padded_record bytes r count is =
    let own : List ℕ = record_bytes r bytes in
    let long : length own ≡ min record_size (length bytes - record_size * r) = length-take record_size (drop (record_size * r) bytes) ∙ ap (min record_size) (length-drop (record_size * r) bytes) in
    ap (λ (k : ℕ). take k (padded_record r bytes)) (is ∙ sym long) ∙ take-append_seam own (replicate (record_size - length own) 0)

-- the bytes in the records below one, and then those in it
pub records_more : (bytes buffer : List ℕ) (r count : ℕ) → count ≡ min record_size (length bytes - record_size * r) → buffer ≡ padded_record r bytes
    → take (record_size * r) bytes ++ take count buffer ≡ take (record_size * (r + 1)) bytes
records_more bytes buffer r count size is =
    let next : record_size * r + record_size ≡ record_size * (r + 1) = omega arith in
    ap (λ (l : List ℕ). take (record_size * r) bytes ++ l) (ap (take count) is ∙ take-padded_record bytes r count size)
    ∙ sym (take-add (record_size * r) record_size bytes) ∙ ap (λ (k : ℕ). take k bytes) next
