-- Trees told by the pointer at each place: what stands where, and that such a tree holds its objects.
use Rattle.std.proofs.Common.{◌≡◌, ◌≢◌, ℕ, ◌+◌, ◌*◌, ◌/◌, ◌%◌, ◌<◌, ◌≤◌, List, length, refl, ap, sym, subst, ◌∙◌, arith, ◌⊎◌, inl, inr}
use Rattle.std.specs.Prelude.{Option, Some, None, IfSome}
use Rattle.std.proofs.Math.Nat.{div-add-mod}
use Rattle.std.proofs.lemmas.Bool.{cases_eq, cases_lt}
use Rattle.std.specs.Ordering.{nat_cmp}
use Rattle.std.specs.FinMap as map
use Rattle.std.specs.FinMap.{FinMap}
use Rattle.base.specs.declared.pointer.Pointer.{Pointer}
use Rattle.base.specs.formats.Limits.{object_count, indirect_count, pointer_count, entry_count, one_level_length}
use Rattle.base.specs.formats.Fields.{part, number_at, pointer_in, entry_in, entry_present, entry_pointer, no_pointer}
use Rattle.base.specs.formats.Geometry.{block_size}
use Rattle.base.specs.formats.Blocks.{Frame, Opens}
use Rattle.base.specs.tree.Places.{Place, IsPlace, kind_of, number_of_place, object_of_indirect, strip_of, strip_number, pointer_below, number_below, pointer_of, directory_pointer, levels_in, below_pointer, top_pointer, indirect_pointer, data_pointer, IsInTree}
use Rattle.base.specs.tree.Places.Place.{Root, Directory, Top, Indirect, Data}
use Rattle.base.specs.tree.Tree.{OpensAt, IsTree, IsDirectory, IsEntry, IsStrip, AreStrips, IsRecord}
use Rattle.base.specs.kept.PlacedTrees.{IsEntryFor, IsShort, IsLong, NeedsNoTop, HasNonePast, StandsAt, HoldsTree, IsPlaced, ArePlaced}
use Rattle.base.proofs.tree.LevelPointers.{zero_entry, zero_present, opens-address, pointer_below-opens, pointer_below-none, number_below-opens, number_below-none, top-one, top-two, indirect-two, indirect-first, indirect-later}
use Rattle.base.proofs.tree.Strips.{strip-low, strip-object, number-object, number-strip, number-back, first-low, first-object, first-number}

-- a place is known by the kind and the number of its block
pub place-by_number : (p q : Place) → IsPlace p → IsPlace q → kind_of p ≡ kind_of q → number_of_place p ≡ number_of_place q → p ≡ q
place-by_number Root Root a b kinds numbers = refl
place-by_number Root (Directory e) a b kinds numbers = absurd (omega (arith, kinds))
place-by_number Root (Top o) a b kinds numbers = absurd (omega (arith, kinds))
place-by_number Root (Indirect o) a b kinds numbers = absurd (omega (arith, kinds))
place-by_number Root (Data o l) a b kinds numbers = absurd (omega (arith, kinds))
place-by_number (Directory d) Root a b kinds numbers = absurd (omega (arith, kinds))
place-by_number (Directory d) (Directory e) a b kinds numbers = ap (λ i. Directory i) numbers
place-by_number (Directory d) (Top o) a b kinds numbers = absurd (omega (arith, kinds))
place-by_number (Directory d) (Indirect o) a b kinds numbers = absurd (omega (arith, kinds))
place-by_number (Directory d) (Data o l) a b kinds numbers = absurd (omega (arith, kinds))
place-by_number (Top n) Root a b kinds numbers = absurd (omega (arith, kinds))
place-by_number (Top n) (Directory e) a b kinds numbers = absurd (omega (arith, kinds))
place-by_number (Top n) (Top o) a b kinds numbers = ap (λ i. Top i) numbers
place-by_number (Top n) (Indirect o) a b kinds numbers = absurd (omega (arith, kinds))
place-by_number (Top n) (Data o l) a b kinds numbers = absurd (omega (arith, kinds))
place-by_number (Indirect m) Root a b kinds numbers = absurd (omega (arith, kinds))
place-by_number (Indirect m) (Directory e) a b kinds numbers = absurd (omega (arith, kinds))
place-by_number (Indirect m) (Top o) a b kinds numbers = absurd (omega (arith, kinds))
place-by_number (Indirect m) (Indirect o) a b kinds numbers = ap (λ i. Indirect i) numbers
place-by_number (Indirect m) (Data o l) a b kinds numbers = absurd (omega (arith, kinds))
place-by_number (Data m k) Root a b kinds numbers = absurd (omega (arith, kinds))
place-by_number (Data m k) (Directory e) a b kinds numbers = absurd (omega (arith, kinds))
place-by_number (Data m k) (Top o) a b kinds numbers = absurd (omega (arith, kinds))
place-by_number (Data m k) (Indirect o) a b kinds numbers = absurd (omega (arith, kinds))
place-by_number (Data m k) (Data o l) a b kinds numbers =
    let strips_same : m ≡ o = omega (arith, a.1, b.1, numbers) in
    let records_same : k ≡ l = omega (arith, a.1, b.1, numbers) in
    (λ i. Data (strips_same i) (records_same i))

-- no object is of one level and of two
pub not_both : (o : Option (List ℕ)) → IsShort o → IsLong o → ⊥
not_both None short long = long
not_both (Some bytes) short long = absurd (omega (arith, short, long))

-- a pointer whose block opens is one
pub opens-some : (image : List ℕ) (frame : Frame) (kind number : ℕ) (p : Pointer) (payload : List ℕ) → Opens image frame kind number p payload → p ≢ no_pointer
opens-some image frame kind number p payload o = λ e. opens-address image frame kind number p payload o (ap (λ (q : Pointer). q.address) e)

-- a pointer with an address is one
pub some-by_address : (p : Pointer) → p.address ≢ 0 → p ≢ no_pointer
some-by_address p some = λ none. some (ap (λ (q : Pointer). q.address) none)

module _ (image : List ℕ) (frame : Frame) (pointers : Place → Pointer) (objects : FinMap nat_cmp (List ℕ)) (holds : HoldsTree image frame pointers objects) where
  -- what the directory of object n says of it: there is no directory, or its entry
  abbrev ByDirectory : ℕ → Type 0
  ByDirectory n =
      ((pointers (Directory (n / entry_count)) ≡ no_pointer) × (map.get objects n ≡ None) × (pointers (Indirect n) ≡ no_pointer))
      ⊎ ((payload : List ℕ) × OpensAt image frame (Directory (n / entry_count)) (pointers (Directory (n / entry_count))) payload
      × IsEntryFor frame (entry_in payload (n % entry_count)) (pointers (Top n)) (pointers (Indirect n)) (map.get objects n))

  by_directory : (n : ℕ) → n < object_count → ByDirectory n
  by_directory n below =
      let d_below : n / 63 < 84 = omega (arith, below) in
      let k_below : n % 63 < 63 = omega arith in
      elim (holds.each (Directory (n / entry_count)) d_below) as (λ _. ByDirectory n) [
        | inl h ↦ inl (
          h.0,
          subst (λ (m : ℕ). map.get objects m ≡ None) (div-add-mod n entry_count) ((h.1 (n % entry_count) k_below).0),
          subst (λ (m : ℕ). pointers (Indirect m) ≡ no_pointer) (div-add-mod n entry_count) ((h.1 (n % entry_count) k_below).1),
        )
        | inr h ↦ inr (
          h.0,
          h.1,
          subst (λ (m : ℕ). IsEntryFor frame (entry_in h.0 (n % entry_count)) (pointers (Top m)) (pointers (Indirect m)) (map.get objects m)) (div-add-mod n entry_count) (h.2 (n % entry_count) k_below),
        )
      ]

  -- an object of one level, or none, has no top, and no strip but the first
  pub short-top : (n : ℕ) → n < object_count → IsShort (map.get objects n) → pointers (Top n) ≡ no_pointer
  short-top n low short = elim (holds.each (Top n) low) as (λ _. pointers (Top n) ≡ no_pointer) [ inl h ↦ h.0 | inr h ↦ absurd (not_both (map.get objects n) short h.0) ]

  by_needs : (n j : ℕ) → j ≢ 0 → NeedsNoTop (map.get objects n) j (pointers (Indirect (strip_number n j))) → pointers (Indirect (strip_number n j)) ≡ no_pointer
  by_needs n j later (inl none) = none
  by_needs n j later (inr (first, short)) = absurd (later first)

  later_of_object : (n j : ℕ) → n < object_count → j < pointer_count → j ≢ 0 → IsShort (map.get objects n) → pointers (Indirect (strip_number n j)) ≡ no_pointer
  later_of_object n j low j_low later short = elim (holds.each (Top n) low) as (λ _. pointers (Indirect (strip_number n j)) ≡ no_pointer) [
    | inl h ↦ by_needs n j later (h.1 j j_low)
    | inr h ↦ absurd (not_both (map.get objects n) short h.0)
  ]

  pub later-strip : (m : ℕ) → m < indirect_count → strip_of m ≢ 0 → IsShort (map.get objects (object_of_indirect m)) → pointers (Indirect m) ≡ no_pointer
  later-strip m low later short =
      subst (λ (i : ℕ). pointers (Indirect i) ≡ no_pointer) (number-back m) (later_of_object (object_of_indirect m) (strip_of m) (number-object m) (number-strip m low) later short)

  -- an absent object has no pointers
  absent_entry : (n : ℕ) (entry : List ℕ) → IsEntryFor frame entry (pointers (Top n)) (pointers (Indirect n)) None → pointers (Indirect n) ≡ no_pointer
  absent_entry n entry (inl h) = h.1
  absent_entry n entry (inr h) = absurd (h.1)

  pub absent-indirect : (n : ℕ) → n < object_count → map.get objects n ≡ None → pointers (Indirect n) ≡ no_pointer
  absent-indirect n below absent = elim (by_directory n below) as (λ _. pointers (Indirect n) ≡ no_pointer) [
    | inl h ↦ h.2
    | inr h ↦ absent_entry n (entry_in h.0 (n % entry_count)) (subst (λ (o : Option (List ℕ)). IsEntryFor frame (entry_in h.0 (n % entry_count)) (pointers (Top n)) (pointers (Indirect n)) o) absent h.2)
  ]

  absent_short : (n : ℕ) → map.get objects n ≡ None → IsShort (map.get objects n)
  absent_short n absent = subst (λ (o : Option (List ℕ)). IsShort o) (sym absent) tt

  pub absent-strip : (m : ℕ) → m < indirect_count → map.get objects (object_of_indirect m) ≡ None → pointers (Indirect m) ≡ no_pointer
  absent-strip m low absent = elim (cases_eq (strip_of m) 0) as (λ _. pointers (Indirect m) ≡ no_pointer) [
    | inl first ↦ subst (λ (i : ℕ). pointers (Indirect i) ≡ no_pointer) (first-number m first) (absent-indirect (object_of_indirect m) (number-object m) absent)
    | inr later ↦ later-strip m low later (absent_short (object_of_indirect m) absent)
  ]

  below_no_indirect : (m k : ℕ) → m < indirect_count → k < pointer_count → pointers (Indirect m) ≡ no_pointer → pointers (Data m k) ≡ no_pointer
  below_no_indirect m k low k_low none = elim (holds.each (Indirect m) low) as (λ _. pointers (Data m k) ≡ no_pointer) [
    | inl h ↦ h.1 k k_low
    | inr h ↦ absurd (opens-some image frame 4 m (pointers (Indirect m)) h.0 h.1 none)
  ]

  pub absent-data : (m k : ℕ) → m < indirect_count → k < pointer_count → map.get objects (object_of_indirect m) ≡ None → pointers (Data m k) ≡ no_pointer
  absent-data m k low k_low absent = below_no_indirect m k low k_low (absent-strip m low absent)

  -- a record of an object that is there
  pub record_at : (m k : ℕ) (bytes : List ℕ) → m < indirect_count → k < pointer_count → map.get objects (object_of_indirect m) ≡ Some bytes
      → IsRecord image frame m k (pointers (Data m k)) bytes
  record_at m k bytes low k_low there =
      subst (λ (o : Option (List ℕ)). IfSome o (λ bytes. IsRecord image frame m k (pointers (Data m k)) bytes)) there (holds.each (Data m k) (low, k_low))

  -- a strip of it, and all strips of one of two levels
  strip_at : (m : ℕ) (bytes : List ℕ) → m < indirect_count → map.get objects (object_of_indirect m) ≡ Some bytes → IsStrip image frame m (pointers (Indirect m)) bytes
  strip_at m bytes low there = elim (holds.each (Indirect m) low) as (λ _. IsStrip image frame m (pointers (Indirect m)) bytes) [
    | inl h ↦ inl (h.0, λ k k_low. subst (λ (p : Pointer). IsRecord image frame m k p bytes) (h.1 k k_low) (record_at m k bytes low k_low there))
    | inr h ↦ inr (h.0, h.1, λ k k_low. subst (λ (p : Pointer). IsRecord image frame m k p bytes) (sym (h.2 k k_low)) (record_at m k bytes low k_low there))
  ]

  strip_of_object : (n j : ℕ) (bytes : List ℕ) → n < object_count → j < pointer_count → map.get objects n ≡ Some bytes
      → IsStrip image frame (strip_number n j) (pointers (Indirect (strip_number n j))) bytes
  strip_of_object n j bytes low j_low there = strip_at (strip_number n j) bytes (strip-low n j low j_low) (ap (λ (i : ℕ). map.get objects i) (strip-object n j low) ∙ there)

  needs_none : (n j : ℕ) (bytes : List ℕ) → map.get objects n ≡ Some bytes → one_level_length < length bytes → NeedsNoTop (map.get objects n) j (pointers (Indirect (strip_number n j)))
      → pointers (Indirect (strip_number n j)) ≡ no_pointer
  needs_none n j bytes there long (inl none) = none
  needs_none n j bytes there long (inr (first, short)) = absurd (not_both (Some bytes) (subst (λ (o : Option (List ℕ)). IsShort o) there short) long)

  strips_at : (n : ℕ) (bytes : List ℕ) → n < object_count → map.get objects n ≡ Some bytes → one_level_length < length bytes → AreStrips image frame n (pointers (Top n)) bytes
  strips_at n bytes low there long = elim (holds.each (Top n) low) as (λ _. AreStrips image frame n (pointers (Top n)) bytes) [
    | inl h ↦ inl (
      h.0,
      λ j j_low. subst (λ (p : Pointer). IsStrip image frame (strip_number n j) p bytes) (needs_none n j bytes there long (h.1 j j_low)) (strip_of_object n j bytes low j_low there),
    )
    | inr h ↦ inr (
      h.1,
      h.2,
      λ j j_low. let named = h.3 j j_low in (
        subst (λ (p : Pointer). IsStrip image frame (strip_number n j) p bytes) (sym named.0) (strip_of_object n j bytes low j_low there),
        λ past. named.0 ∙ (subst (λ (o : Option (List ℕ)). HasNonePast o j (pointers (Indirect (strip_number n j)))) there named.1) past,
      ),
    )
  ]

  entry_at : (n : ℕ) (entry : List ℕ) (o : Option (List ℕ)) → n < object_count → map.get objects n ≡ o → IsEntryFor frame entry (pointers (Top n)) (pointers (Indirect n)) o → IsEntry image frame n entry o
  entry_at n entry None below is (inl h) = h.0
  entry_at n entry None below is (inr h) = absurd (h.1)
  entry_at n entry (Some bytes) below is (inl h) =
      (h.1, inl (h.0, h.2, subst (λ (p : Pointer). IsStrip image frame n p bytes) (sym h.3) (strip_at n bytes (first-low n below) (ap (λ (i : ℕ). map.get objects i) (first-object n below) ∙ is))))
  entry_at n entry (Some bytes) below is (inr (later, h)) =
      (h.1, inr (later, (h.0, h.2, h.3, subst (λ (p : Pointer). AreStrips image frame n p bytes) (sym h.4) (strips_at n bytes below is h.2))))

  directory_at : (d : ℕ) → d < pointer_count → IsDirectory image frame d (pointers (Directory d)) objects
  directory_at d below = elim (holds.each (Directory d) below) as (λ _. IsDirectory image frame d (pointers (Directory d)) objects) [
    | inl h ↦ inl (h.0, λ k k_below. (h.1 k k_below).0)
    | inr h ↦ inr (
      h.0,
      h.1,
      λ k k_below. let n_below : 63 * d + k < 5292 = omega (arith, below, k_below) in
          entry_at (entry_count * d + k) (entry_in h.0 k) (map.get objects (entry_count * d + k)) n_below refl (h.2 k k_below),
    )
  ]

  -- below no root there is nothing
  below_no_root : pointers Root ≡ no_pointer → ((d : ℕ) → d < pointer_count → pointers (Directory d) ≡ no_pointer) → (n : ℕ) → (n < object_count) ⊎ (object_count ≤ n) → map.get objects n ≡ None
  below_no_root none each n (inl below) =
      let d_below : n / 63 < 84 = omega (arith, below) in
      elim (by_directory n below) as (λ _. map.get objects n ≡ None) [
        | inl h ↦ h.1
        | inr h ↦ absurd (opens-some image frame 3 (n / entry_count) (pointers (Directory (n / entry_count))) h.0 h.1 (each (n / entry_count) d_below))
      ]
  below_no_root none each n (inr above) = holds.no_others n above

  -- it is a tree of its objects
  pub holds-tree : IsTree image frame (pointers Root) objects
  holds-tree = record {
    no_others = holds.no_others;
    directories = elim (holds.each Root tt) as (λ _. ((pointers Root ≡ no_pointer) × ((n : ℕ) → map.get objects n ≡ None))
        ⊎ ((payload : List ℕ) × OpensAt image frame Root (pointers Root) payload × ((d : ℕ) → d < pointer_count → IsDirectory image frame d (pointer_in payload d) objects))) [
          | inl h ↦ inl (h.0, λ n. below_no_root h.0 h.1 n (cases_lt n object_count))
          | inr h ↦ inr (h.0, h.1, λ d below. subst (λ (p : Pointer). IsDirectory image frame d p objects) (sym (h.2 d below)) (directory_at d below))
        ];
  }

  -- its pointers, read from the image, are those told
  told-directory : (d : ℕ) → d < pointer_count → directory_pointer image (pointers Root) d ≡ pointers (Directory d)
  told-directory d below = elim (holds.each Root tt) as (λ _. directory_pointer image (pointers Root) d ≡ pointers (Directory d)) [
    | inl h ↦ pointer_below-none image (pointers Root) (λ payload. pointer_in payload d) h.0 ∙ sym (h.1 d below)
    | inr h ↦ pointer_below-opens image frame 2 0 (pointers Root) h.0 (λ payload. pointer_in payload d) h.1 ∙ h.2 d below
  ]

  -- an object of two levels, whose entry names its top, or another, whose entry names its first strip
  abbrev OfTwo : ℕ → Type 0
  OfTwo n = (levels_in image (pointers Root) n ≡ 2) × (below_pointer image (pointers Root) n ≡ pointers (Top n)) × IsLong (map.get objects n)

  abbrev OfOne : ℕ → Type 0
  OfOne n = (levels_in image (pointers Root) n ≢ 2) × (below_pointer image (pointers Root) n ≡ pointers (Indirect n)) × IsShort (map.get objects n)

  abbrev present_reads : ℕ → List ℕ → ℕ
  present_reads n payload = entry_present (entry_in payload (n % entry_count))

  abbrev entry_reads : ℕ → List ℕ → Pointer
  entry_reads n payload = entry_pointer (entry_in payload (n % entry_count))

  module _ (n : ℕ) (low : n < object_count) where
    told-levels : levels_in image (pointers Root) n ≡ number_below image (pointers (Directory (n / entry_count))) (present_reads n)
    told-levels = ap (λ (p : Pointer). number_below image p (present_reads n)) (told-directory (n / entry_count) (omega (arith, low)))

    told-below : below_pointer image (pointers Root) n ≡ pointer_below image (pointers (Directory (n / entry_count))) (entry_reads n)
    told-below = ap (λ (p : Pointer). pointer_below image p (entry_reads n)) (told-directory (n / entry_count) (omega (arith, low)))

    by_entry : (payload : List ℕ) (o : Option (List ℕ)) → map.get objects n ≡ o → levels_in image (pointers Root) n ≡ present_reads n payload → below_pointer image (pointers Root) n ≡ entry_reads n payload
        → IsEntryFor frame (entry_in payload (n % entry_count)) (pointers (Top n)) (pointers (Indirect n)) o → OfTwo n ⊎ OfOne n
    by_entry payload None is levels below (inl h) =
        let absent : levels_in image (pointers Root) n ≡ 0 = levels ∙ ap entry_present h.0 ∙ zero_present in
        inr (λ two. absurd (omega (arith, absent, two)), below ∙ ap entry_pointer h.0 ∙ zero_entry ∙ sym h.1, absent_short n is)
    by_entry payload None is levels below (inr h) = absurd (h.1)
    by_entry payload (Some bytes) is levels below (inl h) =
        let one : levels_in image (pointers Root) n ≡ 1 = levels ∙ h.0 in
        inr (λ two. absurd (omega (arith, one, two)), below ∙ h.3, subst (λ (o : Option (List ℕ)). IsShort o) (sym is) h.2)
    by_entry payload (Some bytes) is levels below (inr (later, h)) = inl (levels ∙ h.0, below ∙ h.4, subst (λ (o : Option (List ℕ)). IsLong o) (sym is) h.2)

    levels_told : OfTwo n ⊎ OfOne n
    levels_told = elim (by_directory n low) as (λ _. OfTwo n ⊎ OfOne n) [
      | inl h ↦
          let none : levels_in image (pointers Root) n ≡ 0 = told-levels ∙ number_below-none image (pointers (Directory (n / entry_count))) (present_reads n) h.0 in
          inr (λ two. absurd (omega (arith, none, two)), told-below ∙ pointer_below-none image (pointers (Directory (n / entry_count))) (entry_reads n) h.0 ∙ sym h.2, absent_short n h.1)
      | inr h ↦ by_entry h.0 (map.get objects n) refl (told-levels ∙ number_below-opens image frame 3 (n / entry_count) (pointers (Directory (n / entry_count))) h.0 (present_reads n) h.1)
          (told-below ∙ pointer_below-opens image frame 3 (n / entry_count) (pointers (Directory (n / entry_count))) h.0 (entry_reads n) h.1) h.2
    ]

  told-top : (n : ℕ) → n < object_count → top_pointer image (pointers Root) n ≡ pointers (Top n)
  told-top n low = elim (levels_told n low) as (λ _. top_pointer image (pointers Root) n ≡ pointers (Top n)) [
    | inl two ↦ top-two image (pointers Root) n two.0 ∙ two.1
    | inr one ↦ top-one image (pointers Root) n one.0 ∙ sym (short-top n low one.2)
  ]

  told-below_top : (m : ℕ) → m < indirect_count → IsLong (map.get objects (object_of_indirect m))
      → pointer_below image (pointers (Top (object_of_indirect m))) (λ payload. pointer_in payload (strip_of m)) ≡ pointers (Indirect m)
  told-below_top m low long = by_top (holds.each (Top (object_of_indirect m)) (number-object m)) ∙ ap (λ (i : ℕ). pointers (Indirect i)) (number-back m)
    where
      named : Pointer
      named = pointers (Indirect (strip_number (object_of_indirect m) (strip_of m)))

      unnamed : NeedsNoTop (map.get objects (object_of_indirect m)) (strip_of m) named → no_pointer ≡ named
      unnamed (inl none) = sym none
      unnamed (inr h) = absurd (not_both (map.get objects (object_of_indirect m)) h.1 long)

      by_top : StandsAt image frame pointers objects (Top (object_of_indirect m)) → pointer_below image (pointers (Top (object_of_indirect m))) (λ payload. pointer_in payload (strip_of m)) ≡ named
      by_top (inl h) = pointer_below-none image (pointers (Top (object_of_indirect m))) (λ payload. pointer_in payload (strip_of m)) h.0 ∙ unnamed (h.1 (strip_of m) (number-strip m low))
      by_top (inr h) = pointer_below-opens image frame 7 (object_of_indirect m) (pointers (Top (object_of_indirect m))) h.1 (λ payload. pointer_in payload (strip_of m)) h.2 ∙ (h.3 (strip_of m) (number-strip m low)).0

  told-indirect : (m : ℕ) → m < indirect_count → indirect_pointer image (pointers Root) m ≡ pointers (Indirect m)
  told-indirect m low = elim (levels_told (object_of_indirect m) (number-object m)) as (λ _. indirect_pointer image (pointers Root) m ≡ pointers (Indirect m)) [
    | inl two ↦ indirect-two image (pointers Root) m two.0
        ∙ ap (λ (p : Pointer). pointer_below image p (λ payload. pointer_in payload (strip_of m))) (told-top (object_of_indirect m) (number-object m)) ∙ told-below_top m low two.2
    | inr one ↦ elim (cases_eq (strip_of m) 0) as (λ _. indirect_pointer image (pointers Root) m ≡ pointers (Indirect m)) [
      | inl first ↦ indirect-first image (pointers Root) m one.0 first ∙ one.1 ∙ ap (λ (i : ℕ). pointers (Indirect i)) (first-number m first)
      | inr later ↦ indirect-later image (pointers Root) m one.0 later ∙ sym (later-strip m low later one.2)
    ]
  ]

  told-data : (m k : ℕ) → m < indirect_count → k < pointer_count → data_pointer image (pointers Root) m k ≡ pointers (Data m k)
  told-data m k low k_low =
      ap (λ (p : Pointer). pointer_below image p (λ payload. pointer_in payload k)) (told-indirect m low)
      ∙ (elim (holds.each (Indirect m) low) as (λ _. pointer_below image (pointers (Indirect m)) (λ payload. pointer_in payload k) ≡ pointers (Data m k)) [
        | inl h ↦ pointer_below-none image (pointers (Indirect m)) (λ payload. pointer_in payload k) h.0 ∙ sym (h.1 k k_low)
        | inr h ↦ pointer_below-opens image frame 4 m (pointers (Indirect m)) h.0 (λ payload. pointer_in payload k) h.1 ∙ h.2 k k_low
      ])

  pub pointers-told : (place : Place) → IsPlace place → pointer_of image (pointers Root) place ≡ pointers place
  pointers-told Root in_range = refl
  pointers-told (Directory d) in_range = told-directory d in_range
  pointers-told (Top n) in_range = told-top n in_range
  pointers-told (Indirect m) in_range = told-indirect m in_range
  pointers-told (Data m k) in_range = told-data m k in_range.0 in_range.1

  -- each place has no pointer, or one to a block that opens there
  abbrev pub NoneOrOpens : Place → Type 0
  NoneOrOpens place = (pointers place ≡ no_pointer) ⊎ ((payload : List ℕ) × OpensAt image frame place (pointers place) payload)

  data-opens : (m k : ℕ) → m < indirect_count → k < pointer_count → (o : Option (List ℕ)) → map.get objects (object_of_indirect m) ≡ o → NoneOrOpens (Data m k)
  data-opens m k low k_low None is = inl (absent-data m k low k_low is)
  data-opens m k low k_low (Some bytes) is = elim (record_at m k bytes low k_low is) as (λ _. NoneOrOpens (Data m k)) [
    | inl h ↦ inl h.0
    | inr h ↦ inr (_, h.1)
  ]

  pub none_or_opens : (place : Place) → IsPlace place → NoneOrOpens place
  none_or_opens Root in_range = elim (holds.each Root in_range) as (λ _. NoneOrOpens Root) [ inl h ↦ inl h.0 | inr h ↦ inr (h.0, h.1) ]
  none_or_opens (Directory d) in_range = elim (holds.each (Directory d) in_range) as (λ _. NoneOrOpens (Directory d)) [ inl h ↦ inl h.0 | inr h ↦ inr (h.0, h.1) ]
  none_or_opens (Top n) in_range = elim (holds.each (Top n) in_range) as (λ _. NoneOrOpens (Top n)) [ inl h ↦ inl h.0 | inr h ↦ inr (h.1, h.2) ]
  none_or_opens (Indirect m) in_range = elim (holds.each (Indirect m) in_range) as (λ _. NoneOrOpens (Indirect m)) [ inl h ↦ inl h.0 | inr h ↦ inr (h.0, h.1) ]
  none_or_opens (Data m k) in_range = data-opens m k in_range.0 in_range.1 (map.get objects (object_of_indirect m)) refl

  pub opens-at : (place : Place) → IsPlace place → pointers place ≢ no_pointer → (payload : List ℕ) × OpensAt image frame place (pointers place) payload
  opens-at place in_range some = elim (none_or_opens place in_range) as (λ _. (payload : List ℕ) × OpensAt image frame place (pointers place) payload) [
    | inl none ↦ absurd (some none)
    | inr o ↦ o
  ]

  -- each pointer is none, or one to a block of the area
  pub holds-placed : ArePlaced frame.blocks pointers
  holds-placed place in_range = elim (none_or_opens place in_range) as (λ _. IsPlaced frame.blocks (pointers place)) [
    | inl none ↦ inl none
    | inr o ↦ inr (o.1).in_area
  ]

  -- a pointer that is one has an address, and one with an address is one
  pub holds-address : (place : Place) → IsPlace place → pointers place ≢ no_pointer → (pointers place).address ≢ 0
  holds-address place in_range some =
      let o = opens-at place in_range some in
      opens-address image frame (kind_of place) (number_of_place place) (pointers place) o.0 o.1

  pub none-by_address : (place : Place) → IsPlace place → (pointers place).address ≡ 0 → pointers place ≡ no_pointer
  none-by_address place in_range zero_is = elim (none_or_opens place in_range) as (λ _. pointers place ≡ no_pointer) [
    | inl none ↦ none
    | inr o ↦ absurd (opens-address image frame (kind_of place) (number_of_place place) (pointers place) o.0 o.1 zero_is)
  ]

  -- the addresses in the tree are those of the pointers told
  pub in-tree : (address : ℕ) → IsInTree image (pointers Root) address → (place : Place) × IsPlace place × ((pointers place).address ≡ address) × (pointers place ≢ no_pointer)
  in-tree address is =
      let named : (pointers is.place).address ≡ address = ap (λ (p : Pointer). p.address) (sym (pointers-told is.place is.in_range)) ∙ is.named in
      (is.place, is.in_range, named, some-by_address (pointers is.place) (λ zero_is. is.there (sym named ∙ zero_is)))

  pub told-in_tree : (place : Place) → IsPlace place → pointers place ≢ no_pointer → IsInTree image (pointers Root) ((pointers place).address)
  told-in_tree place in_range some = record {
    place = place;
    in_range = in_range;
    named = ap (λ (p : Pointer). p.address) (pointers-told place in_range);
    there = holds-address place in_range some;
  }

  -- two places have no block in common
  pub places-apart : (p q : Place) → IsPlace p → IsPlace q → pointers p ≢ no_pointer → (pointers p).address ≡ (pointers q).address → p ≡ q
  places-apart p q p_in q_in some same =
      let a = opens-at p p_in some in
      let b = opens-at q q_in (some-by_address (pointers q) (λ zero_is. holds-address p p_in some (same ∙ zero_is))) in
      let kinds : kind_of p ≡ kind_of q = sym a.1.block.kind_is ∙ ap (λ (x : ℕ). number_at (part image x block_size) 0) same ∙ b.1.block.kind_is in
      let numbers : number_of_place p ≡ number_of_place q = sym a.1.block.number_is ∙ ap (λ (x : ℕ). number_at (part image x block_size) 24) same ∙ b.1.block.number_is in
      place-by_number p q p_in q_in kinds numbers
