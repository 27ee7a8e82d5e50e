-- Objects within the limits of a pool, told by rising number: what the digest has of them, and how many they are.
use Rattle.std.proofs.Common.{◌≡◌, ℕ, zero, suc, ◌+◌, Bool, List, [], ◌++◌, length, Option, Some, None, cond, is_some, refl, ap, sym, ◌∙◌, add-one, append_assoc, append-nil, length-append}
use Rattle.std.specs.Prelude.{option_map, unwrap_or}
use Rattle.std.specs.Option.{option_map_or}
use Rattle.std.specs.Ordering.{nat_cmp}
use Rattle.std.specs.Int.{to_le_bytes, w32, w64}
use Rattle.std.specs.List.{flat_map}
use Rattle.std.specs.FinMap as finite
use Rattle.std.specs.FinMap.{FinMap, len-entries}
use Rattle.std.proofs.lemmas.Grind.{flat_map-append}
use Rattle.base.specs.formats.Digest.{contents_text, object_text}
use Rattle.base.specs.formats.Limits.{object_count}
use Rattle.object_reads.specs.Digests.{text_at}
use Rattle.contents.specs.Judging.{with_name}
use Rattle.tree_blocks.specs.Sources.{object_bytes, object_length}
use Rattle.tree_blocks.specs.ListedObjects.{AreWithin}
use Rattle.tree_blocks.proofs.ListedObjects.{entries_below, entries_below-all, entry_at}

-- what the digest has of those whose numbers lie below this one
unfoldable pub text_below : FinMap nat_cmp (List ℕ) → ℕ → List ℕ
text_below objects zero = []
text_below objects (suc n) = text_below objects n ++ text_at objects n

-- what the digest has of an object that is there: its number, its length, and the bytes
pub text_at-there : (objects : FinMap nat_cmp (List ℕ)) (n size : ℕ) → Some size ≡ object_length objects n
    → to_le_bytes w32 n ++ to_le_bytes w64 size ++ object_bytes objects n ≡ text_at objects n
text_at-there objects n size is = go (finite.get objects n) is
  where
    go : (o : Option (List ℕ)) → Some size ≡ option_map length o
        → to_le_bytes w32 n ++ to_le_bytes w64 size ++ unwrap_or o [] ≡ option_map_or (λ bytes. object_text (n, bytes)) o []
    go None is = absurd (let no_way : Some size ≡ None = is in cc)
    go (Some bytes) is = let long : size ≡ length bytes = cc in rw long refl

flat_map-entries_below : (objects : FinMap nat_cmp (List ℕ)) (n : ℕ) → flat_map object_text (entries_below objects n) ≡ text_below objects n
unfolding entries_below text_below entry_at
flat_map-entries_below objects zero = refl
flat_map-entries_below objects (suc n) =
    flat_map-append object_text (entries_below objects n) (entry_at n (finite.get objects n))
    ∙ ap (λ (l : List ℕ). l ++ flat_map object_text (entry_at n (finite.get objects n))) (flat_map-entries_below objects n)
    ∙ ap (λ (l : List ℕ). text_below objects n ++ l) (go (finite.get objects n))
  where
    go : (o : Option (List ℕ)) → flat_map object_text (entry_at n o) ≡ option_map_or (λ bytes. object_text (n, bytes)) o []
    go None = refl
    go (Some bytes) = append-nil (object_text (n, bytes))

-- how many of them there are
unfoldable pub count_below : FinMap nat_cmp (List ℕ) → ℕ → ℕ
count_below objects zero = 0
count_below objects (suc n) = count_below objects n + cond (is_some (finite.get objects n)) 1 0

length-entries_below : (objects : FinMap nat_cmp (List ℕ)) (n : ℕ) → length (entries_below objects n) ≡ count_below objects n
unfolding entries_below count_below entry_at
length-entries_below objects zero = refl
length-entries_below objects (suc n) =
    length-append (entries_below objects n) (entry_at n (finite.get objects n))
    ∙ ap (λ k. k + length (entry_at n (finite.get objects n))) (length-entries_below objects n)
    ∙ ap (λ k. count_below objects n + k) (go (finite.get objects n))
  where
    go : (o : Option (List ℕ)) → length (entry_at n o) ≡ cond (is_some o) 1 0
    go None = refl
    go (Some bytes) = refl

pub counted_next : (objects : FinMap nat_cmp (List ℕ)) (n so_far count : ℕ) (there : Bool) → so_far ≡ count_below objects n → there ≡ is_some (finite.get objects n) → count ≡ so_far + cond there 1 0
    → count ≡ count_below objects (n + 1)
unfolding count_below
counted_next objects n so_far count there counted told is =
    rw add-one (is ∙ ap (λ k. k + cond there 1 0) counted ∙ ap (λ b. count_below objects n + cond b 1 0) told)

pub count_below-all : (objects : FinMap nat_cmp (List ℕ)) → AreWithin objects → count_below objects object_count ≡ finite.len objects
count_below-all objects within = sym (length-entries_below objects object_count) ∙ ap length (entries_below-all objects within) ∙ sym (len-entries objects)

-- what the digest is of, as far as the objects below a number
unfoldable pub text_so_far : List ℕ → FinMap nat_cmp (List ℕ) → ℕ → List ℕ
text_so_far name objects n = to_le_bytes w32 (length name) ++ name ++ to_le_bytes w32 (finite.len objects) ++ text_below objects n

pub text_so_far-all : (name : List ℕ) (objects : FinMap nat_cmp (List ℕ)) → AreWithin objects → text_so_far name objects object_count ≡ contents_text (with_name objects name)
unfolding text_so_far
text_so_far-all name objects within =
    ap (λ (l : List ℕ). to_le_bytes w32 (length name) ++ name ++ to_le_bytes w32 (finite.len objects) ++ l)
    (sym (flat_map-entries_below objects object_count) ∙ ap (flat_map object_text) (entries_below-all objects within))

pub text_so_far-start : (name : List ℕ) (objects : FinMap nat_cmp (List ℕ)) (a b : List ℕ) → a ≡ to_le_bytes w32 (length name) → b ≡ to_le_bytes w32 (finite.len objects)
    → a ++ name ++ b ≡ text_so_far name objects 0
unfolding text_so_far text_below
text_so_far-start name objects a b first second = rw (first, second) (sym (append-nil (to_le_bytes w32 (length name) ++ name ++ to_le_bytes w32 (finite.len objects))))

pub text_so_far-next : (name : List ℕ) (objects : FinMap nat_cmp (List ℕ)) (n : ℕ) → text_so_far name objects n ++ text_at objects n ≡ text_so_far name objects (n + 1)
unfolding text_so_far text_below
text_so_far-next name objects n = rw add-one (append_assoc (to_le_bytes w32 (length name) ++ name ++ to_le_bytes w32 (finite.len objects)) (text_below objects n) (text_at objects n))
