-- A range that is read part by part.
use Rattle.std.proofs.Common.{◌≡◌, ◌+◌, ◌-◌, ◌<◌, ◌≤◌, ◌⊎◌, ◌++◌, ◌∙◌, inl, inr, ℕ, List, length, take, drop, get_or, get_or-take, get_or-drop, length-take, length-drop, Option, Some, None, sym, ap, arith}
use Rattle.std.specs.Prelude.{IfSome, option_map}
use Rattle.std.proofs.lemmas.Bool.{cases_lt}
use Rattle.std.proofs.lemmas.List.{ext_get_or, get_or_append_left, get_or-append_right}
use Rattle.std.proofs.lemmas.Slice.{take-put_mid}
use borrow.Rule.Slice.PartMut.{put_mid}
use Rattle.base.specs.formats.Fields.{part}
use Rattle.base.specs.formats.Limits.{max_length, object_count}
use Rattle.base.proofs.common.KeptLists.{Some-injective}
use Rattle.tree_blocks.specs.Sources.{AreBytesFrom}

-- the bytes up to a part, and those of the part, are read
pub read_more : (object into bytes : List ℕ) (low done count k offset : ℕ) → done ≤ length into → length bytes ≡ count → offset ≡ low + done
    → ((j : ℕ) → j < done → get_or into j 0 ≡ get_or object (low + j) 0) → AreBytesFrom offset object bytes
    → (j : ℕ) → j < done + count → get_or (put_mid done k into bytes) j 0 ≡ get_or object (low + j) 0
read_more object into bytes low done count k offset before long at read next j inside =
    sym (get_or-take (done + count) (put_mid done k into bytes) j 0 inside)
    ∙ ap (λ (l : List ℕ). get_or l j 0) (take-put_mid done k into bytes (done + count) (ap (λ (n : ℕ). done + n) (sym long)) before) ∙ go (cases_lt j done)
  where
    front : length (take done into) ≡ done
    front = length-take done into ∙ omega (arith, before)

    go : (j < done) ⊎ (done ≤ j) → get_or (take done into ++ bytes) j 0 ≡ get_or object (low + j) 0
    go (inl l) = get_or_append_left (take done into) bytes 0 j (rw front l) ∙ get_or-take done into j 0 l ∙ read j l
    go (inr from) =
        let same : offset + (j - done) ≡ low + j = omega (arith, at, from) in
        get_or-append_right (take done into) bytes done j 0 front from ∙ next (j - done) (rw long (omega (arith, inside, from)))
        ∙ ap (λ (n : ℕ). get_or object n 0) same

-- bytes that were read from an offset of an object on, and end below its end, are a part of it
pub part_read : (bytes into : List ℕ) (low count : ℕ) → length into ≡ count → low + count ≤ length bytes → ((k : ℕ) → k < count → get_or into k 0 ≡ get_or bytes (low + k) 0)
    → into ≡ part bytes low count
part_read bytes into low count long inside each =
    let size : length (part bytes low count) ≡ count = length-take count (drop low bytes) ∙ rw (length-drop low bytes) (omega (arith, inside)) in
    ext_get_or 0 into (part bytes low count) (long ∙ sym size) (λ k l.
    let below : k < count = rw (sym long) l in
    each k below ∙ sym (get_or-take count (drop low bytes) k 0 below ∙ get_or-drop low bytes k 0))

-- an object within the limits is no longer than the greatest length
pub within_long : (o : Option (List ℕ)) (n size : ℕ) → IfSome o (λ bytes. (n < object_count) × (length bytes ≤ max_length)) → Some size ≡ option_map length o → size ≤ max_length
within_long (Some bytes) n size within is = rw (Some-injective is) within.1
within_long None n size within is = absurd cc
