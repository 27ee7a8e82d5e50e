-- The order of the walk, and parts of it that are sound.
use Rattle.std.proofs.Common.{◌≡◌, ℕ, ◌+◌, ◌*◌, ◌/◌, ◌%◌, ◌<◌, ◌≤◌, List, refl, ap, sym, subst, ◌∙◌, arith, ◌⊎◌, inl, inr}
use Rattle.std.proofs.lemmas.Bool.{cases_lt}
use Rattle.base.specs.declared.pointer.Pointer.{Pointer}
use Rattle.base.specs.formats.Limits.{object_count, indirect_count, entry_count, object_stride, directory_stride}
use Rattle.base.specs.formats.Blocks.{Frame}
use Rattle.base.specs.tree.Places.{Place, IsPlace, strip_of, strip_number, walk_index_of, walk_index_of_object, walk_index_of_indirect}
use Rattle.base.specs.tree.Damages.{IsSoundAt}
use Rattle.base.proofs.tree.Strips.{number-strip, strip-object, strip-which}
use Rattle.base.proofs.tree.WalkIndexes.{same_place}
use Rattle.trees.specs.Walking.{AreSound, IsDamageFrom, directory_index, objects_index}

-- the numbers behind words that do not unfold
pub object-stride : object_stride ≡ 7141
unfolding object_stride
object-stride = refl

directory-stride : directory_stride ≡ 449884
unfolding directory_stride object_stride
directory-stride = refl

-- the indexes by numbers
pub index-directory : (d : ℕ) → directory_index d ≡ 1 + 449884 * d
index-directory d = ap (λ (s : ℕ). 1 + s * d) directory-stride

pub index-objects : (d : ℕ) → objects_index d ≡ 2 + 449884 * d
index-objects d = ap (λ (s : ℕ). 2 + s * d) directory-stride

pub index-object : (n : ℕ) → walk_index_of_object n ≡ 2 + 449884 * (n / 63) + 7141 * (n % 63)
index-object n = ap (λ (s : ℕ). 2 + s * (n / 63) + object_stride * (n % 63)) directory-stride ∙ ap (λ (s : ℕ). 2 + 449884 * (n / 63) + s * (n % 63)) object-stride

-- an object's index among those of its directory
pub index_within : (d k : ℕ) → k < entry_count → walk_index_of_object (entry_count * d + k) ≡ objects_index d + 7141 * k
index_within d k low =
    let q : (63 * d + k) / 63 ≡ d = omega (arith, low) in
    let r : (63 * d + k) % 63 ≡ k = omega (arith, low) in
    index-object (63 * d + k) ∙ rw (q, r) (ap (λ (s : ℕ). s + 7141 * k) (sym (index-objects d)))

-- a strip's index in its object
pub index_of_strip : (n j : ℕ) → n < object_count → walk_index_of_indirect (strip_number n j) ≡ walk_index_of_object n + 1 + 85 * j
index_of_strip n j low = ap (λ (o : ℕ). walk_index_of_object o + 1 + 85 * strip_of (strip_number n j)) (strip-object n j low) ∙ ap (λ (i : ℕ). walk_index_of_object n + 1 + 85 * i) (strip-which n j low)

-- a quotient and a remainder are told by their number
parts-told : (q k p l t u : ℕ) → k < 63 → l < 63 → t < 7141 → u < 7141 → 2 + 449884 * q + 7141 * k + t ≡ 2 + 449884 * p + 7141 * l + u → (q ≡ p) × ((k ≡ l) × (t ≡ u))
parts-told q k p l t u hk hl ht hu e = (omega (arith, hk, hl, ht, hu, e), (omega (arith, hk, hl, ht, hu, e), omega (arith, hk, hl, ht, hu, e)))

strips-told : (j i r s : ℕ) → r < 85 → s < 85 → 1 + 85 * j + r ≡ 1 + 85 * i + s → (j ≡ i) × (r ≡ s)
strips-told j i r s hr hs e = (omega (arith, hr, hs, e), omega (arith, hr, hs, e))

-- an object and a place in it are told by the index
pub same-object : (n o t u : ℕ) → t < 7141 → u < 7141 → walk_index_of_object n + t ≡ walk_index_of_object o + u → (n ≡ o) × (t ≡ u)
same-object n o t u ht hu e =
    let k : n % 63 < 63 = omega arith in
    let l : o % 63 < 63 = omega arith in
    let same = sym (ap (λ (w : ℕ). w + t) (index-object n)) ∙ e ∙ ap (λ (w : ℕ). w + u) (index-object o) in
    let told = parts-told (n / 63) (n % 63) (o / 63) (o % 63) t u k l ht hu same in
    let quotients : n / 63 ≡ o / 63 = told.0 in
    let remainders : n % 63 ≡ o % 63 = told.1.0 in
    (omega (arith, quotients, remainders), told.1.1)

same-number : (m i : ℕ) → m % 5292 ≡ i % 5292 → m / 5292 ≡ i / 5292 → m ≡ i
same-number m i objects strips = omega (arith, objects, strips)

in_object : (m r : ℕ) → m < indirect_count → r < 85 → 1 + 85 * (m / 5292) + r < 7141
in_object m r low hr = let j : m / 5292 < 84 = number-strip m low in omega (arith, j, hr)

from_object : (w j r : ℕ) → w + 1 + 85 * j + r ≡ w + (1 + 85 * j + r)
from_object w j r = omega arith

-- and a strip and a place in it
pub same-strip : (m i r s : ℕ) → m < indirect_count → i < indirect_count → r < 85 → s < 85 → walk_index_of_indirect m + r ≡ walk_index_of_indirect i + s → (m ≡ i) × (r ≡ s)
same-strip m i r s hm hi hr hs e =
    let same = sym (from_object (walk_index_of_object (m % 5292)) (m / 5292) r) ∙ e ∙ from_object (walk_index_of_object (i % 5292)) (i / 5292) s in
    let told = same-object (m % 5292) (i % 5292) (1 + 85 * (m / 5292) + r) (1 + 85 * (i / 5292) + s) (in_object m r hm hr) (in_object i s hi hs) same in
    let parts = strips-told (m / 5292) (i / 5292) r s hr hs told.1 in
    (same-number m i told.0 parts.0, parts.1)

-- a strip is not the top of an object
pub no_top-strip : (n m r : ℕ) → m < indirect_count → r < 85 → walk_index_of_object n ≡ walk_index_of_indirect m + r → ⊥
no_top-strip n m r hm hr e =
    let zero : walk_index_of_object n + 0 ≡ walk_index_of_object n = omega arith in
    let same = zero ∙ e ∙ from_object (walk_index_of_object (m % 5292)) (m / 5292) r in
    let told = same-object n (m % 5292) 0 (1 + 85 * (m / 5292) + r) (omega arith) (in_object m r hm hr) same in
    let none : 0 ≡ 1 + 85 * (m / 5292) + r = told.1 in
    omega (arith, none)

-- nor is a place of an object a directory, or the root
no_directory : (d q k t : ℕ) → k < 63 → t < 7141 → 1 + 449884 * d ≡ 2 + 449884 * q + 7141 * k + t → ⊥
no_directory d q k t hk ht e = omega (arith, hk, ht, e)

pub no_directory-object : (d n t : ℕ) → t < 7141 → directory_index d ≡ walk_index_of_object n + t → ⊥
no_directory-object d n t ht e =
    let k : n % 63 < 63 = omega arith in
    no_directory d (n / 63) (n % 63) t k ht (sym (index-directory d) ∙ e ∙ ap (λ (w : ℕ). w + t) (index-object n))

pub no_directory-strip : (d m r : ℕ) → m < indirect_count → r < 85 → directory_index d ≡ walk_index_of_indirect m + r → ⊥
no_directory-strip d m r hm hr e =
    no_directory-object d (m % 5292) (1 + 85 * (m / 5292) + r) (in_object m r hm hr) (e ∙ from_object (walk_index_of_object (m % 5292)) (m / 5292) r)

-- no places
pub sound_none : (image : List ℕ) (frame : Frame) (root : Pointer) (start end : ℕ) → end ≤ start → AreSound image frame root start end
sound_none image frame root start end none = record { each = λ other there low high. absurd (omega (arith, none, low, high)) }

-- one part after another
pub sound_more : (image : List ℕ) (frame : Frame) (root : Pointer) (start middle end : ℕ) → AreSound image frame root start middle → AreSound image frame root middle end → AreSound image frame root start end
sound_more image frame root start middle end first second = record { each = λ other there low high. go other there low high (cases_lt (walk_index_of other) middle) }
  where
    go : (other : Place) → IsPlace other → start ≤ walk_index_of other → walk_index_of other < end → (walk_index_of other < middle) ⊎ (middle ≤ walk_index_of other) → IsSoundAt image frame root other
    go other there low high (inl before) = first.each other there low before
    go other there low high (inr behind) = second.each other there behind high

between : (w at start end : ℕ) → start ≡ at → end ≡ start + 1 → start ≤ w → w < end → at ≡ w
between w at start end here next low high = omega (arith, here, next, low, high)

-- one place
pub sound_one : (image : List ℕ) (frame : Frame) (root : Pointer) (place : Place) (start end : ℕ) → IsPlace place → start ≡ walk_index_of place → end ≡ start + 1 → IsSoundAt image frame root place
    → AreSound image frame root start end
sound_one image frame root place start end there at next sound = record {
  each = λ other in_range low high. subst (λ (p : Place). IsSoundAt image frame root p)
      (same_place place other there in_range (between (walk_index_of other) (walk_index_of place) start end at next low high)) sound;
}

later : (start middle reached : ℕ) → start ≤ middle → middle ≤ reached → start ≤ reached
later start middle reached low after = omega (arith, low, after)

-- a damage after a sound part
pub damage_behind : (image : List ℕ) (frame : Frame) (root : Pointer) (start middle kind address : ℕ) → start ≤ middle → AreSound image frame root start middle → IsDamageFrom image frame root middle kind address
    → IsDamageFrom image frame root start kind address
damage_behind image frame root start middle kind address low sound f = record {
  place = f.place;
  in_range = f.in_range;
  kind_is = f.kind_is;
  address_is = f.address_is;
  damaged = f.damaged;
  reached = later start middle (walk_index_of f.place) low f.reached;
  before = sound_more image frame root start middle (walk_index_of f.place) sound f.before;
}
