-- The places that a sync writes are places of a tree, each with its reason, and the root is the last of them.
use Rattle.std.proofs.Common.{◌≡◌, ℕ, zero, suc, ◌+◌, ◌<◌, Bool, true, false, ap, ◌∙◌, List, [], ◌∷◌, ◌++◌, length, map, filter, Some, inl, inr, append-nil, refl, subst, arith}
use Rattle.std.specs.Prelude.{All, slice_get, if◌then◌else◌}
use Rattle.std.specs.List.{flat_map, range_with_len}
use Rattle.std.proofs.lemmas.List.{length-append}
use Rattle.std.proofs.lemmas.List.Elements.{All-append, All-cons, All-nil}
use Rattle.base.specs.formats.Limits.{indirect_count, object_count, pointer_count}
use Rattle.base.specs.tree.Places.{IsPlace, Place, object_of_indirect, strip_number, strip_of}
use Rattle.base.specs.tree.Places.Place.{Data, Directory, Indirect, Root, Top}
use Rattle.base.specs.tree.Syncs.{GroupChanges, is_directory_written, is_indirect_written, is_record_written, is_root_written, is_top_written, places_of_object, places_of_strip, pointer_numbers, written_by}
use Rattle.base.proofs.common.KeptLists.{All-at, All-each, at_filter, push-cases, at-map}
use Rattle.base.proofs.tree.Strips.{strip-low, strip-object, strip-which}
use Rattle.base.proofs.tree.WrittenPlaces.{in-first}

-- two functions that agree on a list's elements make the same list of it
pub map_same : {A B : Type 0} (f g : A → B) (xs : List A) → ((i : ℕ) (x : A) → slice_get xs i ≡ Some x → f x ≡ g x) → map f xs ≡ map g xs
map_same f g [] agree = refl
map_same f g (x ∷ xs) agree = λ k. agree zero x refl k ∷ map_same f g xs (λ i y at. agree (suc i) y at) k

-- what holds of all that is made of each element of a list
All-flat : {A B : Type 0} (P : B → Type 0) (f : A → List B) (xs : List A) → ((i : ℕ) (x : A) → slice_get xs i ≡ Some x → All P (f x)) → All P (flat_map f xs)
All-flat P f [] each = All-nil P
All-flat P f (x ∷ xs) each = All-append P (f x) (flat_map f xs) (each zero x refl) (All-flat P f xs (λ i y at. each (suc i) y at))

-- a place that stands in no list but for its end is the last
ends_with : (xs : List Place) (b : Bool) (end : Place) (i : ℕ) → ((j : ℕ) → slice_get xs j ≡ Some end → ⊥) → slice_get (xs ++ (if b then end ∷ [] else [])) i ≡ Some end → length (xs ++ (if b then end ∷ [] else [])) ≡ i + 1
ends_with xs true end i none at = elim (push-cases xs end end i at) as (λ _. length (xs ++ end ∷ []) ≡ i + 1) [
  | inl early ↦ absurd (none i early)
  | inr last ↦ (let long = length-append xs (end ∷ []) in let here = last.0 in omega (arith, long, here))
]
ends_with xs false end i none at = absurd (none i (subst (λ (l : List Place). slice_get l i ≡ Some end) (append-nil xs) at))

-- one place, where a test passes
All-if : (P : Place → Type 0) (b : Bool) (place : Place) → (b ≡ true → P place) → All P (if b then place ∷ [] else [])
All-if P true place is = All-cons P place [] (is refl) (All-nil P)
All-if P false place is = All-nil P

module _ (group : GroupChanges) where
  -- why a place is written
  abbrev pub IsWrittenAt : Place → Type 0
  IsWrittenAt Root = is_root_written group ≡ true
  IsWrittenAt (Directory d) = (d < pointer_count) × (is_directory_written group d ≡ true)
  IsWrittenAt (Top n) = (n < object_count) × (is_top_written group n ≡ true)
  IsWrittenAt (Indirect m) = (m < indirect_count) × (is_indirect_written group (object_of_indirect m) (strip_of m) ≡ true)
  IsWrittenAt (Data m k) = (m < indirect_count) × (k < pointer_count) × (is_record_written group (object_of_indirect m) (strip_of m) k ≡ true)

  -- what holds of a strip of an object holds of the strip with its number
  of_number : (f : ℕ → ℕ → Bool) (n j : ℕ) → n < object_count → f n j ≡ true → f (object_of_indirect (strip_number n j)) (strip_of (strip_number n j)) ≡ true
  of_number f n j low is = ap (λ a. f a (strip_of (strip_number n j))) (strip-object n j low) ∙ ap (f n) (strip-which n j low) ∙ is

  written_of_strip : (n j : ℕ) → n < object_count → j < pointer_count → All IsWrittenAt (places_of_strip group n j)
  written_of_strip n j low j_low = All-each IsWrittenAt (places_of_strip group n j) (λ i place at.
      let (k, there, same) = at-map (λ k. Data (strip_number n j) k) (filter (is_record_written group n j) pointer_numbers) i place at in
      let (l, stands, passes) = at_filter (is_record_written group n j) pointer_numbers i k there in
      subst IsWrittenAt same (strip-low n j low j_low, in-first pointer_count l k stands, of_number (λ a b. is_record_written group a b k) n j low passes))

  abbrev indirects_of : ℕ → List Place
  indirects_of n = map (λ j. Indirect (strip_number n j)) (filter (is_indirect_written group n) pointer_numbers)

  written_indirects : (n : ℕ) → n < object_count → All IsWrittenAt (indirects_of n)
  written_indirects n low = All-each IsWrittenAt (indirects_of n) (λ i place at.
      let (j, there, same) = at-map (λ j. Indirect (strip_number n j)) (filter (is_indirect_written group n) pointer_numbers) i place at in
      let (l, stands, passes) = at_filter (is_indirect_written group n) pointer_numbers i j there in
      subst IsWrittenAt same (strip-low n j low (in-first pointer_count l j stands), of_number (is_indirect_written group) n j low passes))

  written_of_object : (n : ℕ) → n < object_count → All IsWrittenAt (places_of_object group n)
  written_of_object n low =
      All-append IsWrittenAt (flat_map (places_of_strip group n) pointer_numbers ++ indirects_of n) (if is_top_written group n then Top n ∷ [] else [])
      (All-append IsWrittenAt (flat_map (places_of_strip group n) pointer_numbers) (indirects_of n)
      (All-flat IsWrittenAt (places_of_strip group n) pointer_numbers (λ i j at. written_of_strip n j low (in-first pointer_count i j at)))
      (written_indirects n low))
      (All-if IsWrittenAt (is_top_written group n) (Top n) (λ is. (low, is)))

  written_objects : All IsWrittenAt (flat_map (places_of_object group) (range_with_len 0 object_count))
  written_objects = All-flat IsWrittenAt (places_of_object group) (range_with_len 0 object_count) (λ i n at. written_of_object n (in-first object_count i n at))

  written_directories : All IsWrittenAt (map (λ d. Directory d) (filter (is_directory_written group) (range_with_len 0 pointer_count)))
  written_directories = All-each IsWrittenAt (map (λ d. Directory d) (filter (is_directory_written group) (range_with_len 0 pointer_count))) (λ i place at.
      let (d, there, same) = at-map (λ d. Directory d) (filter (is_directory_written group) (range_with_len 0 pointer_count)) i place at in
      let (j, stands, passes) = at_filter (is_directory_written group) (range_with_len 0 pointer_count) i d there in
      subst IsWrittenAt same (in-first pointer_count j d stands, passes))

  pub each_written : (i : ℕ) (place : Place) → slice_get (written_by group) i ≡ Some place → IsWrittenAt place
  each_written i place at = All-at IsWrittenAt (written_by group) i place all at
    where
      all : All IsWrittenAt (written_by group)
      all = All-append IsWrittenAt (flat_map (places_of_object group) (range_with_len 0 object_count) ++ map (λ d. Directory d) (filter (is_directory_written group) (range_with_len 0 pointer_count))) (if is_root_written group then Root ∷ [] else [])
          (All-append IsWrittenAt (flat_map (places_of_object group) (range_with_len 0 object_count)) (map (λ d. Directory d) (filter (is_directory_written group) (range_with_len 0 pointer_count))) written_objects written_directories)
          (All-if IsWrittenAt (is_root_written group) Root (λ is. is))

  -- so it is a place of a tree
  written_place : (place : Place) → IsWrittenAt place → IsPlace place
  written_place Root is = tt
  written_place (Directory d) is = is.0
  written_place (Top n) is = is.0
  written_place (Indirect m) is = is.0
  written_place (Data m k) is = (is.0, is.1)

  pub each_place : (i : ℕ) (place : Place) → slice_get (written_by group) i ≡ Some place → IsPlace place
  each_place i place at = written_place place (each_written i place at)

  -- and the root is the last one
  abbrev IsBelowRoot : Place → Type 0
  IsBelowRoot Root = ⊥
  IsBelowRoot _ = Unit {0}

  below_root : All IsBelowRoot (flat_map (places_of_object group) (range_with_len 0 object_count) ++ map (λ d. Directory d) (filter (is_directory_written group) (range_with_len 0 pointer_count)))
  below_root = All-append IsBelowRoot (flat_map (places_of_object group) (range_with_len 0 object_count)) (map (λ d. Directory d) (filter (is_directory_written group) (range_with_len 0 pointer_count)))
      (All-flat IsBelowRoot (places_of_object group) (range_with_len 0 object_count) (λ i n at. of_object n))
      (of_numbers (λ d. Directory d) (λ d. tt) (filter (is_directory_written group) (range_with_len 0 pointer_count)))
    where
      of_numbers : (f : ℕ → Place) → ((n : ℕ) → IsBelowRoot (f n)) → (ns : List ℕ) → All IsBelowRoot (map f ns)
      of_numbers f each ns = All-each IsBelowRoot (map f ns) (λ i place at. let (n, there, same) = at-map f ns i place at in subst IsBelowRoot same (each n))

      of_object : (n : ℕ) → All IsBelowRoot (places_of_object group n)
      of_object n =
          All-append IsBelowRoot (flat_map (places_of_strip group n) pointer_numbers ++ indirects_of n) (if is_top_written group n then Top n ∷ [] else [])
          (All-append IsBelowRoot (flat_map (places_of_strip group n) pointer_numbers) (indirects_of n)
          (All-flat IsBelowRoot (places_of_strip group n) pointer_numbers (λ i j at. of_numbers (λ k. Data (strip_number n j) k) (λ k. tt) (filter (is_record_written group n j) pointer_numbers)))
          (of_numbers (λ j. Indirect (strip_number n j)) (λ j. tt) (filter (is_indirect_written group n) pointer_numbers)))
          (All-if IsBelowRoot (is_top_written group n) (Top n) (λ is. tt))

  pub root_last : (i : ℕ) → slice_get (written_by group) i ≡ Some Root → length (written_by group) ≡ i + 1
  root_last i at =
      ends_with (flat_map (places_of_object group) (range_with_len 0 object_count) ++ map (λ d. Directory d) (filter (is_directory_written group) (range_with_len 0 pointer_count))) (is_root_written group) Root i
      (λ j early. All-at IsBelowRoot (flat_map (places_of_object group) (range_with_len 0 object_count) ++ map (λ d. Directory d) (filter (is_directory_written group) (range_with_len 0 pointer_count))) j Root below_root early) at
