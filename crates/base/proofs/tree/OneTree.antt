-- An image has one tree of objects at most under a root pointer.
use Rattle.std.proofs.Common.{◌≡◌, ℕ, ◌+◌, ◌-◌, ◌*◌, ◌/◌, ◌%◌, ◌<◌, ◌≤◌, List, length, take, drop, get_or, replicate, min, refl, ap, sym, subst, ◌∙◌, arith, length-take, length-drop, ◌⊎◌, inl, inr}
use Rattle.std.specs.Prelude.{Option, Some, None}
use Rattle.std.proofs.Math.Nat.{div-add-mod}
use Rattle.std.proofs.lemmas.Bool.{cases_lt}
use Rattle.std.proofs.lemmas.Cmp.{nat_cmp_total}
use Rattle.std.proofs.lemmas.List.{ext_get_or, take_at, get_or-take, get_or-drop}
use Rattle.std.specs.Ordering.{nat_cmp}
use Rattle.std.specs.FinMap as map
use Rattle.std.specs.FinMap.{FinMap, same_map, nat_cmp-IsAntisymmetric}
use Rattle.base.specs.declared.pointer.Pointer.{Pointer}
use Rattle.base.specs.formats.Limits.{object_count, record_size, pointer_count, entry_count}
use Rattle.base.specs.formats.Fields.{pointer_in, entry_in, entry_present, entry_pointer, no_pointer}
use Rattle.base.specs.formats.Blocks.{Frame, Opens}
use Rattle.base.specs.tree.Places.{record_of_strip, record_number, strip_number}
use Rattle.base.specs.tree.Tree.{IsTree, IsDirectory, IsEntry, IsOneLevelObject, IsTwoLevelObject, IsStrip, AreStrips, IsRecord, record_bytes}
use Rattle.base.proofs.tree.LevelPointers.{zero_present}
use Rattle.base.proofs.tree.PlacedTrees.{opens-some}
use Rattle.base.proofs.tree.Strips.{one_level-length, record-count, max-length, first-record, strip-which, record-back}

-- objects of the same length have as many bytes in each record
length-record_bytes : (r : ℕ) (bytes : List ℕ) → length (record_bytes r bytes) ≡ min record_size (length bytes - record_size * r)
length-record_bytes r bytes = simp (length-take, length-drop) refl

-- a byte of an object is one of its record
get_or-record_bytes : (bytes : List ℕ) (k : ℕ) → get_or (record_bytes (k / record_size) bytes) (k % record_size) 0 ≡ get_or bytes k 0
get_or-record_bytes bytes k =
    let below : k % 4032 < 4032 = omega arith in
    get_or-take record_size (drop (record_size * (k / record_size)) bytes) (k % record_size) 0 below
    ∙ get_or-drop (record_size * (k / record_size)) bytes (k % record_size) 0
    ∙ ap (λ (i : ℕ). get_or bytes i 0) (div-add-mod k record_size)

module _ (image : List ℕ) (frame : Frame) where
  one-payload : (kind number : ℕ) (p : Pointer) (a b : List ℕ) → Opens image frame kind number p a → Opens image frame kind number p b → a ≡ b
  one-payload kind number p a b x y = sym x.block.payload_is ∙ y.block.payload_is

  one-record : (m k : ℕ) (p : Pointer) (a b : List ℕ) → length a ≡ length b → IsRecord image frame m k p a → IsRecord image frame m k p b
      → record_bytes (record_number m k) a ≡ record_bytes (record_number m k) b
  one-record m k p a b long x y =
      by_kind (length-record_bytes r a ∙ ap (λ (l : ℕ). min record_size (l - record_size * r)) long ∙ sym (length-record_bytes r b)) x y
    where
      r : ℕ
      r = record_number m k

      by_kind : length (record_bytes r a) ≡ length (record_bytes r b) → IsRecord image frame m k p a → IsRecord image frame m k p b → record_bytes r a ≡ record_bytes r b
      by_kind same (inl x) (inl y) = x.1 ∙ ap (λ (l : ℕ). replicate l 0) same ∙ sym y.1
      by_kind same (inl x) (inr y) = absurd (opens-some image frame 5 (pointer_count * m + k) p _ y.1 x.0)
      by_kind same (inr x) (inl y) = absurd (opens-some image frame 5 (pointer_count * m + k) p _ x.1 y.0)
      by_kind same (inr x) (inr y) =
          let padded = one-payload 5 (pointer_count * m + k) p _ _ x.1 y.1 in
          sym (take_at (record_bytes r a) (replicate (record_size - length (record_bytes r a)) 0) (length (record_bytes r a)) refl)
          ∙ ap (λ (l : List ℕ). take (length (record_bytes r a)) l) padded
          ∙ take_at (record_bytes r b) (replicate (record_size - length (record_bytes r b)) 0) (length (record_bytes r a)) (sym same)

  -- two objects of one length whose records are the same
  abbrev SameRecords : ℕ → List ℕ → List ℕ → Type 0
  SameRecords count a b = (r : ℕ) → r < count → record_bytes r a ≡ record_bytes r b

  by_records : (count : ℕ) (a b : List ℕ) → length a ≡ length b → length a ≤ record_size * count → SameRecords count a b → a ≡ b
  by_records count a b long short same = ext_get_or 0 a b long at
    where
      at : (k : ℕ) → k < length a → get_or a k 0 ≡ get_or b k 0
      at k below =
          let r_below : k / 4032 < count = omega (arith, below, short) in
          sym (get_or-record_bytes a k) ∙ ap (λ (l : List ℕ). get_or l (k % record_size) 0) (same (k / record_size) r_below) ∙ get_or-record_bytes b k

  one-strip : (m : ℕ) (p : Pointer) (a b : List ℕ) → length a ≡ length b → IsStrip image frame m p a → IsStrip image frame m p b
      → (k : ℕ) → k < pointer_count → record_bytes (record_number m k) a ≡ record_bytes (record_number m k) b
  one-strip m p a b long (inl x) (inl y) k low = one-record m k no_pointer a b long (x.1 k low) (y.1 k low)
  one-strip m p a b long (inl x) (inr y) k low = absurd (opens-some image frame 4 m p y.0 y.1 x.0)
  one-strip m p a b long (inr x) (inl y) k low = absurd (opens-some image frame 4 m p x.0 x.1 y.0)
  one-strip m p a b long (inr x) (inr y) k low =
      one-record m k (pointer_in x.0 k) a b long (x.2 k low) (subst (λ (payload : List ℕ). IsRecord image frame m k (pointer_in payload k) b) (sym (one-payload 4 m p x.0 y.0 x.1 y.1)) (y.2 k low))

  one-top : (n : ℕ) (p : Pointer) (a b : List ℕ) → length a ≡ length b → AreStrips image frame n p a → AreStrips image frame n p b
      → (j k : ℕ) → j < pointer_count → k < pointer_count → record_bytes (record_number (strip_number n j) k) a ≡ record_bytes (record_number (strip_number n j) k) b
  one-top n p a b long (inl x) (inl y) j k j_low k_low = one-strip (strip_number n j) no_pointer a b long (x.1 j j_low) (y.1 j j_low) k k_low
  one-top n p a b long (inl x) (inr y) j k j_low k_low = absurd (opens-some image frame 7 n p y.0 y.1 x.0)
  one-top n p a b long (inr x) (inl y) j k j_low k_low = absurd (opens-some image frame 7 n p x.0 x.1 y.0)
  one-top n p a b long (inr x) (inr y) j k j_low k_low =
      one-strip (strip_number n j) (pointer_in x.0 j) a b long (x.2 j j_low).0
      (subst (λ (payload : List ℕ). IsStrip image frame (strip_number n j) (pointer_in payload j) b) (sym (one-payload 7 n p x.0 y.0 x.1 y.1)) (y.2 j j_low).0) k k_low

  -- an object of one level, and one of two
  one-level : (n : ℕ) (entry a b : List ℕ) → n < object_count → length a ≡ length b → IsOneLevelObject image frame n entry a → IsOneLevelObject image frame n entry b → a ≡ b
  one-level n entry a b low long x y = by_records pointer_count a b long (let short = x.1 in omega (arith, short, one_level-length))
      (λ r r_low. subst (λ (i : ℕ). record_bytes i a ≡ record_bytes i b) (first-record n r low) (one-strip n (entry_pointer entry) a b long x.2 y.2 r r_low))

  two-levels : (n : ℕ) (entry a b : List ℕ) → n < object_count → length a ≡ length b → IsTwoLevelObject image frame n entry a → IsTwoLevelObject image frame n entry b → a ≡ b
  two-levels n entry a b low long x y = by_records (pointer_count * pointer_count) a b long (let short = x.2 in omega (arith, short, record-count, max-length)) at
    where
      at : SameRecords (pointer_count * pointer_count) a b
      at r r_low =
          let j_low : r / 84 < 84 = omega (arith, r_low) in
          let k_low : r % 84 < 84 = omega arith in
          let number : record_number (strip_number n (r / pointer_count)) (r % pointer_count) ≡ r =
          ap (λ (j : ℕ). record_of_strip j (r % pointer_count)) (strip-which n (r / pointer_count) low) ∙ record-back r in
          subst (λ (i : ℕ). record_bytes i a ≡ record_bytes i b) number (one-top n (entry_pointer entry) a b long x.3 y.3 (r / pointer_count) (r % pointer_count) j_low k_low)

  no-levels : (entry a b : List ℕ) (n : ℕ) → IsOneLevelObject image frame n entry a → IsTwoLevelObject image frame n entry b → ⊥
  no-levels entry a b n x y = let one = x.0 in let two = y.0 in absurd (omega (arith, one, two))

  no-object : (entry bytes : List ℕ) (n : ℕ) → entry ≡ replicate 64 0 → IsEntry image frame n entry (Some bytes) → ⊥
  no-object entry bytes n zeros h = let zero_is : entry_present entry ≡ 0 = ap (λ (e : List ℕ). entry_present e) zeros ∙ zero_present in
      elim (h.1) [
        | inl one ↦ (let is = one.0 in absurd (omega (arith, zero_is, is)))
        | inr two ↦ (let is = (two.1).0 in absurd (omega (arith, zero_is, is)))
      ]

  one-object : (n : ℕ) (entry a b : List ℕ) → n < object_count → IsEntry image frame n entry (Some a) → IsEntry image frame n entry (Some b) → a ≡ b
  one-object n entry a b low (x_long, inl x) (y_long, inl y) = one-level n entry a b low (sym x_long ∙ y_long) x y
  one-object n entry a b low (x_long, inl x) (y_long, inr y) = absurd (no-levels entry a b n x y.1)
  one-object n entry a b low (x_long, inr x) (y_long, inl y) = absurd (no-levels entry b a n y x.1)
  one-object n entry a b low (x_long, inr x) (y_long, inr y) = two-levels n entry a b low (sym x_long ∙ y_long) x.1 y.1

  one-entry : (n : ℕ) (entry : List ℕ) (o p : Option (List ℕ)) → n < object_count → IsEntry image frame n entry o → IsEntry image frame n entry p → o ≡ p
  one-entry n entry None None low x y = refl
  one-entry n entry None (Some b) low x y = absurd (no-object entry b n x y)
  one-entry n entry (Some a) None low x y = absurd (no-object entry a n y x)
  one-entry n entry (Some a) (Some b) low x y = ap (λ (l : List ℕ). Some l) (one-object n entry a b low x y)

  module _ (a b : FinMap nat_cmp (List ℕ)) where
    one-directory : (d k : ℕ) (p : Pointer) → d < pointer_count → k < entry_count → IsDirectory image frame d p a → IsDirectory image frame d p b → map.get a (entry_count * d + k) ≡ map.get b (entry_count * d + k)
    one-directory d k p d_low below (inl x) (inl y) = x.1 k below ∙ sym (y.1 k below)
    one-directory d k p d_low below (inl x) (inr y) = absurd (opens-some image frame 3 d p y.0 y.1 x.0)
    one-directory d k p d_low below (inr x) (inl y) = absurd (opens-some image frame 3 d p x.0 x.1 y.0)
    one-directory d k p d_low below (inr x) (inr y) =
        one-entry (entry_count * d + k) (entry_in x.0 k) (map.get a (entry_count * d + k)) (map.get b (entry_count * d + k)) (omega (arith, d_low, below)) (x.2 k below)
        (subst (λ (payload : List ℕ). IsEntry image frame (entry_count * d + k) (entry_in payload k) (map.get b (entry_count * d + k))) (sym (one-payload 3 d p x.0 y.0 x.1 y.1)) (y.2 k below))

    module _ (root : Pointer) (x : IsTree image frame root a) (y : IsTree image frame root b) where
      abbrev Below : FinMap nat_cmp (List ℕ) → Type 0
      Below objects = ((root ≡ no_pointer) × ((n : ℕ) → map.get objects n ≡ None))
          ⊎ ((payload : List ℕ) × Opens image frame 2 0 root payload × ((d : ℕ) → d < pointer_count → IsDirectory image frame d (pointer_in payload d) objects))

      by_root : Below a → Below b → (n : ℕ) → n < object_count → map.get a n ≡ map.get b n
      by_root (inl x) (inl y) n below = x.1 n ∙ sym (y.1 n)
      by_root (inl x) (inr y) n below = absurd (opens-some image frame 2 0 root y.0 y.1 x.0)
      by_root (inr x) (inl y) n below = absurd (opens-some image frame 2 0 root x.0 x.1 y.0)
      by_root (inr x) (inr y) n below =
          let d_below : n / 63 < 84 = omega (arith, below) in
          let k_below : n % 63 < 63 = omega arith in
          subst (λ (m : ℕ). map.get a m ≡ map.get b m) (div-add-mod n entry_count)
          (one-directory (n / entry_count) (n % entry_count) (pointer_in x.0 (n / entry_count)) d_below k_below (x.2 (n / entry_count) d_below)
          (subst (λ (payload : List ℕ). IsDirectory image frame (n / entry_count) (pointer_in payload (n / entry_count)) b) (sym (one-payload 2 0 root x.0 y.0 x.1 y.1)) (y.2 (n / entry_count) d_below)))

      -- two trees of objects are one
      pub one-tree : a ≡ b
      one-tree = same_map nat_cmp_total nat_cmp-IsAntisymmetric a b (λ n. at n (cases_lt n object_count))
        where
          at : (n : ℕ) → (n < object_count) ⊎ (object_count ≤ n) → map.get a n ≡ map.get b n
          at n (inl below) = by_root x.directories y.directories n below
          at n (inr above) = x.no_others n above ∙ sym (y.no_others n above)
