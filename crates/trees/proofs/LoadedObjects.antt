-- Objects of one level and of two, as their strips are loaded.
use Rattle.std.proofs.Common.{◌≡◌, ◌≢◌, ℕ, ◌*◌, ◌<◌, ◌≤◌, Bool, List, [], length, refl, ap, sym, subst, ◌∙◌, arith, inl, inr, Some, None, eq-eqb}
use Rattle.std.specs.Prelude.{IsTrue, if◌then◌else◌}
use Rattle.std.proofs.lemmas.Bool.{cases_eq, ne_eqb}
use Rattle.base.specs.declared.pointer.Pointer.{Pointer}
use Rattle.base.specs.formats.Fields.{no_pointer, pointer_in}
use Rattle.base.specs.formats.Geometry.{IsBlockAddress}
use Rattle.base.specs.formats.Limits.{object_count, one_level_length, pointer_count}
use Rattle.base.specs.formats.Blocks.{Frame}
use Rattle.base.specs.tree.Places.{record_number, strip_number}
use Rattle.base.specs.tree.Places.Place.{Top, Indirect}
use Rattle.base.specs.tree.Tree.{IsRecord, OpensAt}
use Rattle.base.specs.kept.PlacedTrees.{IsPlaced, NeedsNoTop}
use Rattle.base.proofs.tree.Strips.{first-strip, later-record, strip-which}
use Rattle.tree_blocks.specs.Pointers.{ObjectPointers, long_pointers, no_pointers, short_pointers, strip_in, told_record}
use Rattle.tree_blocks.specs.Forms.{AreStripForms}
use Rattle.trees.specs.Loading.{AreLoadedLevels, AreLoadedStrips, HasZeroRecord, IndirectStands, IsLoadedObject, IsLoadedStrip, IsObjectContent, LevelsStand, TopStands}
use Rattle.trees.proofs.LoadedRecords.{past_zeros, strip_hole}

-- no object
pub none_loaded : (keeps : Bool) (image : List ℕ) (frame : Frame) (n : ℕ) → IsLoadedObject keeps image frame n None no_pointers
none_loaded keeps image frame n = record {
  placed = inl refl;
  strips_placed = λ j low. inl refl;
  records_placed = λ j k j_low k_low. inl refl;
  bounded = tt;
  stands = λ keep. inl (refl, λ j low. inl refl);
  strips_stand = λ keep j low. inl (refl, λ k k_low. refl);
  records_stand = λ keep j k j_low k_low. tt;
}

-- one of two levels
pub long_loaded : (keeps : Bool) (image : List ℕ) (frame : Frame) (n : ℕ) (top : Pointer) (strips : List (ℕ × (Pointer × List Pointer))) (bytes : List ℕ) → one_level_length < length bytes
    → IsObjectContent bytes → AreLoadedLevels keeps image frame n top strips bytes → IsLoadedObject keeps image frame n (Some bytes) (long_pointers top strips)
long_loaded keeps image frame n top strips bytes long content all = record {
  placed = all.placed;
  strips_placed = λ j low. (all.each j low).placed;
  records_placed = λ j k j_low k_low. (all.each j j_low).records_placed k k_low;
  bounded = content;
  stands = λ keep. levels (all.stands keep);
  strips_stand = λ keep j low. (all.each j low).stands keep;
  records_stand = λ keep j k j_low k_low. (all.each j j_low).records_stand keep k k_low;
}
  where
    levels : TopStands image frame n top (λ j. (strip_in strips j).0) (length bytes) → LevelsStand image frame n (Some bytes) (long_pointers top strips)
    levels (inl none) = inl (none.0, λ j low. inl (none.1 j low))
    levels (inr (payload, opens, each)) = inr (long, payload, opens, λ j low. ((each j low).0, (each j low).1))

-- one of one level
module _ (keeps : Bool) (image : List ℕ) (frame : Frame) (n : ℕ) (indirect : Pointer) (strips : List (ℕ × (Pointer × List Pointer))) (bytes : List ℕ) (n_low : n < object_count)
    (short : length bytes ≤ one_level_length) (first : IsLoadedStrip keeps image frame n indirect (told_record (indirect, (strip_in strips 0).1)) bytes) where
  abbrev pointers : ObjectPointers
  pointers = short_pointers indirect strips

  -- its first strip, and the later ones
  at-first : (j : ℕ) → j ≡ 0 → pointers.strip j ≡ indirect
  at-first j zeroth = ap (λ (b : Bool). if b then indirect else no_pointer) (eq-eqb j 0 zeroth)

  record-first : (j k : ℕ) → j ≡ 0 → pointers.record_at j k ≡ told_record (indirect, (strip_in strips 0).1) k
  record-first j k zeroth = ap (λ (b : Bool). if b then told_record (indirect, (strip_in strips 0).1) k else no_pointer) (eq-eqb j 0 zeroth)

  at-later : (j : ℕ) → j ≢ 0 → pointers.strip j ≡ no_pointer
  at-later j later = ap (λ (b : Bool). if b then indirect else no_pointer) (ne_eqb j 0 later)

  record-later : (j k : ℕ) → j ≢ 0 → pointers.record_at j k ≡ no_pointer
  record-later j k later = ap (λ (b : Bool). if b then told_record (indirect, (strip_in strips 0).1) k else no_pointer) (ne_eqb j 0 later)

  number-first : (j : ℕ) → j ≡ 0 → strip_number n j ≡ n
  number-first j zeroth = ap (λ (i : ℕ). strip_number n i) zeroth ∙ first-strip n

  later-start : (j k : ℕ) → j ≢ 0 → one_level_length ≤ 4032 * record_number (strip_number n j) k
  later-start j k later = later-record (strip_number n j) k (λ none. later (sym (strip-which n j n_low) ∙ none))

  strip_placed : (j : ℕ) → IsPlaced frame.blocks (pointers.strip j)
  strip_placed j = elim (cases_eq j 0) as (λ _. IsPlaced frame.blocks (pointers.strip j)) [
    | inl zeroth ↦ subst (λ (p : Pointer). IsPlaced frame.blocks p) (sym (at-first j zeroth)) first.placed
    | inr later ↦ inl (at-later j later)
  ]

  record_placed : (j k : ℕ) → k < pointer_count → IsPlaced frame.blocks (pointers.record_at j k)
  record_placed j k low = elim (cases_eq j 0) as (λ _. IsPlaced frame.blocks (pointers.record_at j k)) [
    | inl zeroth ↦ subst (λ (p : Pointer). IsPlaced frame.blocks p) (sym (record-first j k zeroth)) (first.records_placed k low)
    | inr later ↦ inl (record-later j k later)
  ]

  needs_none : (j : ℕ) → NeedsNoTop (Some bytes) j (pointers.strip j)
  needs_none j = elim (cases_eq j 0) as (λ _. NeedsNoTop (Some bytes) j (pointers.strip j)) [
    | inl zeroth ↦ inr (zeroth, short)
    | inr later ↦ inl (at-later j later)
  ]

  stands_first : IndirectStands image frame n indirect (told_record (indirect, (strip_in strips 0).1)) → (j : ℕ) → j ≡ 0 → IndirectStands image frame (strip_number n j) (pointers.strip j) (pointers.record_at j)
  stands_first (inl none) j zeroth = inl (at-first j zeroth ∙ none.0, λ k low. record-first j k zeroth ∙ none.1 k low)
  stands_first (inr (payload, opens, each)) j zeroth = inr (
    payload,
    subst (λ (m : ℕ). OpensAt image frame (Indirect m) (pointers.strip j) payload) (sym (number-first j zeroth)) (subst (λ (p : Pointer). OpensAt image frame (Indirect n) p payload) (sym (at-first j zeroth)) opens),
    λ k low. each k low ∙ sym (record-first j k zeroth),
  )

  strip_stands : IsTrue keeps → (j : ℕ) → IndirectStands image frame (strip_number n j) (pointers.strip j) (pointers.record_at j)
  strip_stands keep j = elim (cases_eq j 0) as (λ _. IndirectStands image frame (strip_number n j) (pointers.strip j) (pointers.record_at j)) [
    | inl zeroth ↦ stands_first (first.stands keep) j zeroth
    | inr later ↦ inl (at-later j later, λ k low. record-later j k later)
  ]

  record_stands : IsTrue keeps → (j k : ℕ) → k < pointer_count → IsRecord image frame (strip_number n j) k (pointers.record_at j k) bytes
  record_stands keep j k low = elim (cases_eq j 0) as (λ _. IsRecord image frame (strip_number n j) k (pointers.record_at j k) bytes) [
    | inl zeroth ↦ subst (λ (m : ℕ). IsRecord image frame m k (pointers.record_at j k) bytes) (sym (number-first j zeroth))
        (subst (λ (p : Pointer). IsRecord image frame n k p bytes) (sym (record-first j k zeroth)) (first.records_stand keep k low))
    | inr later ↦ inl (record-later j k later, past_zeros bytes (record_number (strip_number n j) k) (let start = later-start j k later in omega (arith, short, start)))
  ]

  pub short_loaded : IsObjectContent bytes → IsLoadedObject keeps image frame n (Some bytes) (short_pointers indirect strips)
  short_loaded content = record {
    placed = inl refl;
    strips_placed = λ j low. strip_placed j;
    records_placed = λ j k j_low k_low. record_placed j k k_low;
    bounded = content;
    stands = λ keep. inl (refl, λ j low. needs_none j);
    strips_stand = λ keep j low. strip_stands keep j;
    records_stand = λ keep j k j_low k_low. record_stands keep j k k_low;
  }

-- an object of two levels without a top
pub levels_hole : (keeps : Bool) (image : List ℕ) (frame : Frame) (n : ℕ) (top : Pointer) (strips : List (ℕ × (Pointer × List Pointer))) (bytes : List ℕ) → top ≡ no_pointer → strips ≡ []
    → ((r : ℕ) → HasZeroRecord r bytes) → AreLoadedLevels keeps image frame n top strips bytes
levels_hole keeps image frame n top strips bytes none nothing zeros = record {
  placed = inl none;
  stands = λ keep. inl (none, λ j low. hole j);
  each = λ j low. strip_hole keeps image frame (strip_number n j) (strip_in strips j) bytes (hole j) (λ k k_low. zeros (record_number (strip_number n j) k));
}
  where
    hole : (j : ℕ) → (strip_in strips j).0 ≡ no_pointer
    hole j = ap (λ (l : List (ℕ × (Pointer × List Pointer))). (strip_in l j).0) nothing

-- and one with a top and all strips that it names
pub levels_loaded : (keeps : Bool) (image : List ℕ) (frame : Frame) (n : ℕ) (top : Pointer) (payload : List ℕ) (strips : List (ℕ × (Pointer × List Pointer))) (bytes : List ℕ)
    → IsBlockAddress frame.blocks top.address → (IsTrue keeps → OpensAt image frame (Top n) top payload) → AreStripForms (length bytes) payload
    → ((j : ℕ) → j < pointer_count → (strip_in strips j).0 ≡ pointer_in payload j) → AreLoadedStrips keeps image frame n strips bytes pointer_count → AreLoadedLevels keeps image frame n top strips bytes
levels_loaded keeps image frame n top payload strips bytes placed opens formed named all = record {
  placed = inr placed;
  stands = λ keep. inr (payload, opens keep, λ j low. (sym (named j low), λ past. named j low ∙ (formed j low).1 past));
  each = all.loaded;
}
