-- The uberblock arrays of four labels, read one after another into a ring.
use Rattle.std.proofs.Common.{◌≡◌, ◌⊎◌, inl, inr, ℕ, ◌+◌, ◌*◌, ◌<◌, ◌≤◌, List, ◌++◌, length, take, drop, Result, Ok, Err, OnOk, IfOk, IfErr, Option, Some, None, sym, ◌∙◌, ap, arith}
use Rattle.std.proofs.lemmas.Bool.{cases_lt}
use Rattle.std.proofs.lemmas.List.{drop-drop, take_at}
use Rattle.std.specs.Prelude.{IfSome, IfNone, ok_or}
use borrow.Rule.Slice.PartMut.{put_mid}
use Rattle.base.specs.declared.error.PoolError.{PoolError}
use Rattle.base.specs.declared.error.PoolError.TheVariants.{NoPool}
use Rattle.base.specs.disk.Disk.{put}
use Rattle.base.specs.formats.Fields.{part}
use Rattle.base.specs.formats.Geometry.{slot_place}
use Rattle.base.specs.formats.Uberblocks.{IsActive}
use Rattle.uberblocks.specs.declared.uberblock.Uberblock.{Uberblock}
use Rattle.uberblocks.specs.Rings.{IsActiveInRing, HasNoneInRing, IsRingOf}
use Rattle.uberblocks.specs.Slots.{fields_of}
use Rattle.uberblocks.proofs.Images.{rings_show_actives, rings_show_none}
use Rattle.import_replay.specs.Found.{LacksUberblock}
use Rattle.base.proofs.disk.Put.{Apart, length-part, part-put_same, part-put_apart}

-- what is read into a part of a ring is put there
pub put_array : {A : Type 0} (r : Result A PoolError) (a k at place : ℕ) (ring into image : List ℕ) → k ≡ 131072 → a + 131072 ≤ length ring → at ≡ place
    → length into ≡ length (take k (drop a ring)) → OnOk r (into ≡ part image at (length (take k (drop a ring)))) → OnOk r (put_mid a k ring into ≡ put a (part image place 131072) ring)
put_array (Err e) a k at place ring into image size fits same long is = tt
put_array (Ok x) a k at place ring into image size fits same long is =
    let part_long : length (take k (drop a ring)) ≡ 131072 = ap (λ n. length (take n (drop a ring))) size ∙ length-part a 131072 ring fits in
    let whole : into ≡ part image place 131072 = is ∙ ap (λ n. part image n (length (take k (drop a ring)))) same ∙ ap (λ n. part image place n) part_long in
    let behind : k ≡ length into = size ∙ sym (long ∙ part_long) in
    ap (λ (l : List ℕ). take a ring ++ (into ++ l)) (drop-drop k a ring ∙ ap (λ n. drop (a + n) ring) behind) ∙ ap (λ (l : List ℕ). put a l ring) whole

-- one more array, where those before it stand
pub one_more : (label wide : ℕ) (ring : List ℕ) (piece : ℕ → List ℕ) → label < 4 → length ring ≡ 524288 → wide ≡ 131072 → length (piece label) ≡ wide
    → ((k : ℕ) → k < label → part ring (131072 * k) wide ≡ piece k)
    → (k : ℕ) → k < label + 1 → part (put (131072 * label) (piece label) ring) (131072 * k) wide ≡ piece k
one_more label wide ring piece low long is_wide piece_long each k below = by_place (cases_lt k label)
  where
    in_ring : 131072 * label + length (piece label) ≤ length ring
    in_ring = omega (arith, piece_long, is_wide, long, low)

    apart : k < label → Apart (131072 * label) (length (piece label)) (131072 * k) wide
    apart before = inr (omega (arith, before, is_wide))

    by_place : (k < label) ⊎ (label ≤ k) → part (put (131072 * label) (piece label) ring) (131072 * k) wide ≡ piece k
    by_place (inl before) = part-put_apart (131072 * label) (piece label) ring (131072 * k) wide in_ring (apart before) ∙ each k before
    by_place (inr here) =
        let same : k ≡ label = omega (arith, here, below) in
        ap (λ n. part (put (131072 * label) (piece label) ring) (131072 * n) wide) same
        ∙ ap (λ n. part (put (131072 * label) (piece label) ring) (131072 * label) n) (sym piece_long)
        ∙ part-put_same (131072 * label) (piece label) ring in_ring ∙ ap piece (sym same)

-- a ring that was written through a slice of all of it
pub written_back : (n : ℕ) (new old : List ℕ) → length new ≡ n → take n (new ++ drop (length new) old) ≡ new
written_back n new old long = take_at new (drop (length new) old) n long

-- the active uberblock of the ring is that of the image, and where the ring has none the image has none
module _ (o : Option Uberblock) (r : Result Uberblock PoolError) (ring image : List ℕ) (is : r ≡ ok_or o NoPool) (of_image : IsRingOf ring image) where
  pub active-of_image : IfSome o (λ u. IsActiveInRing ring (fields_of u)) → IfOk r (λ u. IsActive image (fields_of u))
  active-of_image h = by_cases o is h
    where
      by_cases : (p : Option Uberblock) → r ≡ ok_or p NoPool → IfSome p (λ u. IsActiveInRing ring (fields_of u)) → IfOk r (λ u. IsActive image (fields_of u))
      by_cases None e x = rw e tt
      by_cases (Some u) e x = rw e ((rings_show_actives ring image (fields_of u) of_image).0 x)

  pub none-of_image : IfNone o (HasNoneInRing ring) → IfErr r (LacksUberblock image)
  none-of_image h = by_cases o is h
    where
      by_cases : (p : Option Uberblock) → r ≡ ok_or p NoPool → IfNone p (HasNoneInRing ring) → IfErr r (LacksUberblock image)
      by_cases None e x = rw e (λ same. (rings_show_none ring image of_image).0 x)
      by_cases (Some u) e x = rw e tt

-- arrays that were read by the device's size are those of the image
pub is_ring : (size label wide : ℕ) (ring image : List ℕ) → length image ≡ size → 4 ≤ label
    → ((k : ℕ) → k < label → part ring (131072 * k) wide ≡ part image (slot_place size k 0) wide)
    → (k : ℕ) → k < 4 → part ring (131072 * k) wide ≡ part image (slot_place (length image) k 0) wide
is_ring size label wide ring image long all each k low = each k (omega (arith, low, all)) ∙ ap (λ n. part image (slot_place n k 0) wide) (sym long)
