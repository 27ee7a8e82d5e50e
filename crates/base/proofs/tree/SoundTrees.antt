-- A tree without a damage: where a tree holds some objects, each of its places is sound, so no first damage is found.
use Rattle.std.proofs.Common.{◌≡◌, ◌≢◌, ℕ, ◌+◌, ◌-◌, ◌*◌, ◌/◌, ◌%◌, ◌<◌, ◌≤◌, List, ◌++◌, length, length-take, length-drop, replicate, drop, min, refl, ap, sym, subst, ◌∙◌, arith, ◌⊎◌, inl, inr}
use Rattle.std.specs.Prelude.{Option, Some, None}
use Rattle.std.proofs.Math.Nat.{div-add-mod}
use Rattle.std.proofs.lemmas.Bool.{cases_eq}
use Rattle.std.proofs.Math.Seq.{drop-append-add}
use Rattle.std.proofs.lemmas.List.{drop-replicate}
use Rattle.std.specs.Ordering.{nat_cmp}
use Rattle.std.specs.FinMap as map
use Rattle.std.specs.FinMap.{FinMap}
use Rattle.base.specs.declared.pointer.Pointer.{Pointer}
use Rattle.base.specs.formats.Limits.{object_count, indirect_count, one_level_length, max_length, record_size, pointer_count, entry_count}
use Rattle.base.specs.formats.Fields.{pointer_in, entry_in, entry_present, entry_length, entry_pointer, no_pointer}
use Rattle.base.specs.formats.Blocks.{Frame, Opens}
use Rattle.base.specs.tree.Places.{Place, IsPlace, object_of_indirect, strip_of, strip_number, record_number, record_start, strip_start, directory_pointer, levels_in, below_pointer, top_pointer, indirect_pointer, data_pointer}
use Rattle.base.specs.tree.Places.Place.{Root, Directory, Top, Indirect, Data}
use Rattle.base.specs.tree.Tree.{IsTree, IsDirectory, IsEntry, IsStrip, AreStrips, IsRecord, record_bytes}
use Rattle.base.specs.tree.Damages.{IsPointerForm, IsEntryForm, IsRecordPointerForm, IsSoundAt, IsFirstDamage, length_in}
use Rattle.base.proofs.tree.LevelPointers.{zero_entry, zero_present, opens-address, pointer_below-none, pointer_below-opens, number_below-none, number_below-opens, top-one, top-two, indirect-two, indirect-first, indirect-later}
use Rattle.base.proofs.tree.Strips.{number-object, number-strip, number-back, first-number}

-- past the length of an object the payload of its record is zeros
zeros-past : (r : ℕ) (bytes : List ℕ) (size : ℕ) → size ≡ length bytes
    → drop (size - record_size * r) (record_bytes r bytes ++ replicate (record_size - length (record_bytes r bytes)) 0) ≡ replicate (record_size - (size - record_size * r)) 0
zeros-past r bytes size is =
    let rb : List ℕ = record_bytes r bytes in
    let len : length (record_bytes r bytes) ≡ min record_size (length bytes - record_size * r) = simp (length-take, length-drop) refl in
    let past : size - record_size * r ≡ length (record_bytes r bytes) + (size - record_size * r - length (record_bytes r bytes)) = omega arith in
    let left : record_size - length (record_bytes r bytes) - (size - record_size * r - length (record_bytes r bytes)) ≡ record_size - (size - record_size * r) = omega arith in
    ap (λ n. drop n (record_bytes r bytes ++ replicate (record_size - length (record_bytes r bytes)) 0)) past
    ∙ drop-append-add (record_bytes r bytes) (replicate (record_size - length (record_bytes r bytes)) 0) (size - record_size * r - length (record_bytes r bytes))
    ∙ drop-replicate (size - record_size * r - length (record_bytes r bytes)) (record_size - length (record_bytes r bytes)) 0
    ∙ ap (λ n. replicate n 0) left

module _ (image : List ℕ) (frame : Frame) where
  -- a block that opens at a pointer opens at one that is equal to it
  opens-along : (kind number : ℕ) (p q : Pointer) (payload : List ℕ) → p ≡ q → Opens image frame kind number q payload → Opens image frame kind number p payload
  opens-along kind number p q payload e o = subst (λ (x : Pointer). Opens image frame kind number x payload) (sym e) o

  module _ (objects : FinMap nat_cmp (List ℕ)) where
    directory-form : (d : ℕ) (p : Pointer) → IsDirectory image frame d p objects → IsPointerForm p
    directory-form d p (inl h) = inl h.0
    directory-form d p (inr h) = inr (opens-address image frame 3 d p h.0 h.1)

  strip-form : (m : ℕ) (p : Pointer) (bytes : List ℕ) → IsStrip image frame m p bytes → IsPointerForm p
  strip-form m p bytes (inl h) = inl h.0
  strip-form m p bytes (inr h) = inr (opens-address image frame 4 m p h.0 h.1)

  top-form : (n : ℕ) (p : Pointer) (bytes : List ℕ) → AreStrips image frame n p bytes → IsPointerForm p
  top-form n p bytes (inl h) = inl h.0
  top-form n p bytes (inr h) = inr (opens-address image frame 7 n p h.0 h.1)

  record-form : (m k : ℕ) (p : Pointer) (bytes : List ℕ) → IsRecord image frame m k p bytes → IsRecordPointerForm (length bytes) (record_start m k) p
  record-form m k p bytes (inl h) = (λ _. inl h.0, λ _. h.0)
  record-form m k p bytes (inr h) = (λ _. inr (opens-address image frame 5 (pointer_count * m + k) p _ h.1), λ le. absurd (omega (arith, h.0, le)))

  entry-form : (n : ℕ) (entry : List ℕ) (o : Option (List ℕ)) → IsEntry image frame n entry o → IsEntryForm frame entry
  entry-form n entry None h = inl (inl h)
  entry-form n entry (Some bytes) (long, inl one) = inl (inr (one.0, subst (λ x. x ≤ one_level_length) (sym long) one.1, strip-form n (entry_pointer entry) bytes one.2))
  entry-form n entry (Some bytes) (long, inr (later, two)) = inr (
    later,
    (two.0, subst (λ x. one_level_length < x) (sym long) two.1, subst (λ x. x ≤ max_length) (sym long) two.2, top-form n (entry_pointer entry) bytes two.3),
  )

  module _ (root : Pointer) (objects : FinMap nat_cmp (List ℕ)) (tree : IsTree image frame root objects) where
    pub directory-at : (d : ℕ) → d < pointer_count → IsDirectory image frame d (directory_pointer image root d) objects
    directory-at d below =
        elim (tree.directories) as (λ _. IsDirectory image frame d (directory_pointer image root d) objects) [
          | inl h ↦ inl (pointer_below-none image root (λ payload. pointer_in payload d) h.0, λ k _. h.1 (entry_count * d + k))
          | inr h ↦ subst (λ p. IsDirectory image frame d p objects) (sym (pointer_below-opens image frame 2 0 root h.0 (λ payload. pointer_in payload d) h.1)) (h.2 d below)
        ]

    -- What the entry of object n says: it has no bytes, or some of the length there, of one level or of two.
    abbrev OfOneLevel : ℕ → Type 0
    OfOneLevel n = (levels_in image root n ≢ 2)
        × ((below_pointer image root n ≡ no_pointer)
        ⊎ ((bytes : List ℕ) × (length_in image root n ≡ length bytes) × IsStrip image frame n (below_pointer image root n) bytes))

    abbrev OfTwoLevels : ℕ → Type 0
    OfTwoLevels n = (levels_in image root n ≡ 2) × (bytes : List ℕ) × (length_in image root n ≡ length bytes) × AreStrips image frame n (below_pointer image root n) bytes

    abbrev present_reads : ℕ → List ℕ → ℕ
    present_reads n payload = entry_present (entry_in payload (n % entry_count))

    abbrev entry_reads : ℕ → List ℕ → Pointer
    entry_reads n payload = entry_pointer (entry_in payload (n % entry_count))

    module _ (n : ℕ) (payload : List ℕ) (opens : Opens image frame 3 (n / entry_count) (directory_pointer image root (n / entry_count)) payload) where
      levels-read : levels_in image root n ≡ entry_present (entry_in payload (n % entry_count))
      levels-read = number_below-opens image frame 3 (n / entry_count) (directory_pointer image root (n / entry_count)) payload (present_reads n) opens

      below-read : below_pointer image root n ≡ entry_pointer (entry_in payload (n % entry_count))
      below-read = pointer_below-opens image frame 3 (n / entry_count) (directory_pointer image root (n / entry_count)) payload (entry_reads n) opens

      length-read : length_in image root n ≡ entry_length (entry_in payload (n % entry_count))
      length-read = ap (λ p. entry_length (entry_in p (n % entry_count))) opens.block.payload_is

      by-entry : (o : Option (List ℕ)) → IsEntry image frame n (entry_in payload (n % entry_count)) o → OfOneLevel n ⊎ OfTwoLevels n
      by-entry None zeros =
          let absent : levels_in image root n ≡ 0 = levels-read ∙ ap entry_present zeros ∙ zero_present in
          inl (λ two. absurd (omega (arith, absent, two)), inl (below-read ∙ ap entry_pointer zeros ∙ zero_entry))
      by-entry (Some bytes) (long, inl one) =
          let level : levels_in image root n ≡ 1 = levels-read ∙ one.0 in
          inl (λ two. absurd (omega (arith, level, two)), inr (bytes, length-read ∙ long, subst (λ p. IsStrip image frame n p bytes) (sym below-read) one.2))
      by-entry (Some bytes) (long, inr (later, two)) =
          inr (levels-read ∙ two.0, bytes, length-read ∙ long, subst (λ p. AreStrips image frame n p bytes) (sym below-read) two.3)

    object-at : (n : ℕ) → n < object_count → OfOneLevel n ⊎ OfTwoLevels n
    object-at n below =
        let d_below : n / 63 < 84 = omega (arith, below) in
        let k_below : n % 63 < 63 = omega arith in
        elim (directory-at (n / entry_count) d_below) as (λ _. OfOneLevel n ⊎ OfTwoLevels n) [
          | inl h ↦
              let none : levels_in image root n ≡ 0 = number_below-none image (directory_pointer image root (n / entry_count)) (present_reads n) h.0 in
              inl (λ two. absurd (omega (arith, none, two)), inl (pointer_below-none image (directory_pointer image root (n / entry_count)) (entry_reads n) h.0))
          | inr h ↦ by-entry n h.0 h.1 (map.get objects n)
              (subst (λ (m : ℕ). IsEntry image frame m (entry_in h.0 (n % entry_count)) (map.get objects m)) (div-add-mod n entry_count) (h.2 (n % entry_count) k_below))
        ]

    -- the top of an object, and each of its strips, has no block, or holds bytes of the length in the entry
    abbrev TopAt : ℕ → Type 0
    TopAt n = (top_pointer image root n ≡ no_pointer)
        ⊎ ((bytes : List ℕ) × (length_in image root n ≡ length bytes) × AreStrips image frame n (top_pointer image root n) bytes)

    abbrev StripAt : ℕ → Type 0
    StripAt m = (indirect_pointer image root m ≡ no_pointer)
        ⊎ ((bytes : List ℕ) × (length_in image root (object_of_indirect m) ≡ length bytes) × IsStrip image frame m (indirect_pointer image root m) bytes)

    top-at : (n : ℕ) → n < object_count → TopAt n
    top-at n low = elim (object-at n low) as (λ _. TopAt n) [
      | inl one ↦ inl (top-one image root n one.0)
      | inr two ↦ inr (two.1, two.2, subst (λ p. AreStrips image frame n p two.1) (sym (top-two image root n two.0)) two.3)
    ]

    strip-first : (m : ℕ) → OfOneLevel (object_of_indirect m) → strip_of m ≡ 0 → StripAt m
    strip-first m one first = let named = indirect-first image root m one.0 first in
        elim (one.1) as (λ _. StripAt m) [
          | inl none ↦ inl (named ∙ none)
          | inr h ↦ inr (
            h.0,
            h.1,
            subst (λ p. IsStrip image frame m p h.0) (sym named) (subst (λ (i : ℕ). IsStrip image frame i (below_pointer image root (object_of_indirect m)) h.0) (first-number m first) h.2),
          )
        ]

    strip-below : (m : ℕ) → m < indirect_count → OfTwoLevels (object_of_indirect m) → StripAt m
    strip-below m low two =
        let named = indirect-two image root m two.0 in
        let above = top-two image root (object_of_indirect m) two.0 in
        elim (two.3) as (λ _. StripAt m) [
          | inl none ↦ inl (named ∙ pointer_below-none image (top_pointer image root (object_of_indirect m)) (λ payload. pointer_in payload (strip_of m)) (above ∙ none.0))
          | inr h ↦
              let read : indirect_pointer image root m ≡ pointer_in h.0 (strip_of m) =
              named ∙ pointer_below-opens image frame 7 (object_of_indirect m) (top_pointer image root (object_of_indirect m)) h.0 (λ payload. pointer_in payload (strip_of m))
              (opens-along 7 (object_of_indirect m) (top_pointer image root (object_of_indirect m)) (below_pointer image root (object_of_indirect m)) h.0 above h.1) in
              inr (
                two.1,
                two.2,
                subst (λ p. IsStrip image frame m p two.1) (sym read)
                    (subst (λ (i : ℕ). IsStrip image frame i (pointer_in h.0 (strip_of m)) two.1) (number-back m) (h.2 (strip_of m) (number-strip m low)).0),
              )
        ]

    strip-at : (m : ℕ) → m < indirect_count → StripAt m
    strip-at m low = elim (object-at (object_of_indirect m) (number-object m)) as (λ _. StripAt m) [
      | inl one ↦ elim (cases_eq (strip_of m) 0) as (λ _. StripAt m) [
        | inl first ↦ strip-first m one first
        | inr later ↦ inl (indirect-later image root m one.0 later)
      ]
      | inr two ↦ strip-below m low two
    ]

    sound-root : IsSoundAt image frame root Root
    sound-root = elim (tree.directories) as (λ _. IsSoundAt image frame root Root) [
      | inl h ↦ inl h.0
      | inr h ↦ inr (h.0, h.1, λ d below. directory-form objects d (pointer_in h.0 d) (h.2 d below))
    ]

    sound-directory : (d : ℕ) → d < pointer_count → IsSoundAt image frame root (Directory d)
    sound-directory d below = elim (directory-at d below) as (λ _. IsSoundAt image frame root (Directory d)) [
      | inl h ↦ inl h.0
      | inr h ↦ inr (h.0, h.1, λ k k_below. entry-form (entry_count * d + k) (entry_in h.0 k) (map.get objects (entry_count * d + k)) (h.2 k k_below))
    ]

    sound-top : (n : ℕ) → n < object_count → IsSoundAt image frame root (Top n)
    sound-top n low = elim (top-at n low) as (λ _. IsSoundAt image frame root (Top n)) [
      | inl none ↦ inl none
      | inr h ↦ elim (h.2) as (λ _. IsSoundAt image frame root (Top n)) [
        | inl hole ↦ inl hole.0
        | inr o ↦ inr (
          o.0,
          o.1,
          λ j j_low. let strip = o.2 j j_low in
              subst (λ (x : ℕ). IsRecordPointerForm x (strip_start j) (pointer_in o.0 j)) (sym h.1) (λ _. strip-form (strip_number n j) (pointer_in o.0 j) h.0 strip.0, strip.1),
        )
      ]
    ]

    sound-indirect : (m : ℕ) → m < indirect_count → IsSoundAt image frame root (Indirect m)
    sound-indirect m low = elim (strip-at m low) as (λ _. IsSoundAt image frame root (Indirect m)) [
      | inl none ↦ inl none
      | inr h ↦ elim (h.2) as (λ _. IsSoundAt image frame root (Indirect m)) [
        | inl hole ↦ inl hole.0
        | inr o ↦ inr (o.0, o.1, λ k k_low. subst (λ (x : ℕ). IsRecordPointerForm x (record_start m k) (pointer_in o.0 k)) (sym h.1) (record-form m k (pointer_in o.0 k) h.0 (o.2 k k_low)))
      ]
    ]

    sound-data : (m k : ℕ) → m < indirect_count → k < pointer_count → IsSoundAt image frame root (Data m k)
    sound-data m k low k_low = elim (strip-at m low) as (λ _. IsSoundAt image frame root (Data m k)) [
      | inl none ↦ inl (pointer_below-none image (indirect_pointer image root m) (λ payload. pointer_in payload k) none)
      | inr h ↦ elim (h.2) as (λ _. IsSoundAt image frame root (Data m k)) [
        | inl hole ↦ inl (pointer_below-none image (indirect_pointer image root m) (λ payload. pointer_in payload k) hole.0)
        | inr o ↦
            let pointer_is : data_pointer image root m k ≡ pointer_in o.0 k = pointer_below-opens image frame 4 m (indirect_pointer image root m) o.0 (λ payload. pointer_in payload k) o.1 in
            elim (o.2 k k_low) as (λ _. IsSoundAt image frame root (Data m k)) [
              | inl none ↦ inl (pointer_is ∙ none.0)
              | inr d ↦ inr (
                record_bytes (record_number m k) h.0 ++ replicate (record_size - length (record_bytes (record_number m k) h.0)) 0,
                opens-along 5 (pointer_count * m + k) (data_pointer image root m k) (pointer_in o.0 k)
                    (record_bytes (record_number m k) h.0 ++ replicate (record_size - length (record_bytes (record_number m k) h.0)) 0) pointer_is d.1,
                zeros-past (record_number m k) h.0 (length_in image root (object_of_indirect m)) h.1,
              )
            ]
      ]
    ]

    -- where a tree holds objects, every place of it is sound
    pub sound : (place : Place) → IsPlace place → IsSoundAt image frame root place
    sound Root in_range = sound-root
    sound (Directory d) in_range = sound-directory d in_range
    sound (Top n) in_range = sound-top n in_range
    sound (Indirect m) in_range = sound-indirect m in_range
    sound (Data m k) in_range = sound-data m k in_range.0 in_range.1

    -- so it has no first damage
    pub no_damage : (kind address : ℕ) → IsFirstDamage image frame root kind address → ⊥
    no_damage kind address damage = damage.damaged (sound damage.place damage.in_range)
