-- Each object of a tree is what the blocks of its path say.
use Rattle.std.proofs.Common.{◌≡◌, ◌≢◌, ℕ, ◌*◌, ◌/◌, ◌%◌, ◌<◌, ◌≤◌, List, length, ap, sym, subst, ◌∙◌, arith, inl, inr}
use Rattle.std.specs.Prelude.{Option, Some, None}
use Rattle.std.proofs.Math.Nat.{div-add-mod}
use Rattle.std.proofs.lemmas.Bool.{cases_eq}
use Rattle.std.specs.Ordering.{nat_cmp}
use Rattle.std.specs.FinMap as finite
use Rattle.std.specs.FinMap.{FinMap}
use Rattle.base.specs.declared.pointer.Pointer.{Pointer}
use Rattle.base.specs.formats.Limits.{object_count, indirect_count, one_level_length, record_size, pointer_count, entry_count}
use Rattle.base.specs.formats.Fields.{pointer_in, entry_in, entry_present, entry_length, entry_pointer, no_pointer}
use Rattle.base.specs.formats.Blocks.{Frame, Opens}
use Rattle.base.specs.tree.Damages.{length_in}
use Rattle.base.specs.tree.Places.{pointer_of, object_of_indirect, strip_of, strip_number, record_number, directory_pointer, levels_in, below_pointer, top_pointer, indirect_pointer, data_pointer}
use Rattle.base.specs.tree.Places.Place.{Directory}
use Rattle.base.specs.tree.Tree.{OpensAt, IsEntry, IsOneLevelObject, IsRecord, IsStrip, IsTree, IsTwoLevelObject}
use Rattle.base.proofs.tree.LevelPointers.{zero_present, pointer_below-none, pointer_below-opens, number_below-none, number_below-opens, top-two, indirect-two, indirect-first, indirect-later}
use Rattle.base.proofs.tree.SoundTrees.{directory-at}
use Rattle.base.proofs.tree.Strips.{first-number, later-record, number-back, number-strip}
use Rattle.tree_blocks.specs.declared.forms.Entry.{Entry}
use Rattle.trees.specs.ObjectPaths.{IsOnPath}
use Rattle.trees.specs.Walking.{IsObjectAt}
use Rattle.trees.proofs.LoadedRecords.{past_zeros}
use Rattle.trees.proofs.WalkParts.{entry_linked}

module _ (image : List ℕ) (frame : Frame) (root : Pointer) where
  -- the records of a strip, by the pointer to its indirect block
  strip_records : (m : ℕ) (p : Pointer) (bytes : List ℕ) → indirect_pointer image root m ≡ p → IsStrip image frame m p bytes → (k : ℕ) → k < pointer_count
      → IsRecord image frame m k (data_pointer image root m k) bytes
  strip_records m p bytes named (inl hole) k low =
      subst (λ (q : Pointer). IsRecord image frame m k q bytes) (sym (pointer_below-none image (indirect_pointer image root m) (λ payload. pointer_in payload k) (named ∙ hole.0))) (hole.1 k low)
  strip_records m p bytes named (inr o) k low =
      let opens : Opens image frame 4 m (indirect_pointer image root m) o.0 = subst (λ (q : Pointer). Opens image frame 4 m q o.0) (sym named) o.1 in
      subst (λ (q : Pointer). IsRecord image frame m k q bytes) (sym (pointer_below-opens image frame 4 m (indirect_pointer image root m) o.0 (λ payload. pointer_in payload k) opens)) (o.2 k low)

  -- an object of one level has zeros behind its first strip
  later_records : (m : ℕ) (bytes : List ℕ) → length bytes ≤ one_level_length → strip_of m ≢ 0 → indirect_pointer image root m ≡ no_pointer → (k : ℕ)
      → IsRecord image frame m k (data_pointer image root m k) bytes
  later_records m bytes short later none k =
      let past : length bytes ≤ record_size * record_number m k = (let from = later-record m k later in omega (arith, short, from)) in
      inl (pointer_below-none image (indirect_pointer image root m) (λ payload. pointer_in payload k) none, past_zeros bytes (record_number m k) past)

  module _ (n : ℕ) (payload : List ℕ) (opens : Opens image frame 3 (n / entry_count) (directory_pointer image root (n / entry_count)) payload) where
    levels_read : levels_in image root n ≡ entry_present (entry_in payload (n % entry_count))
    levels_read = number_below-opens image frame 3 (n / entry_count) (directory_pointer image root (n / entry_count)) payload (λ l. entry_present (entry_in l (n % entry_count))) opens

    below_read : below_pointer image root n ≡ entry_pointer (entry_in payload (n % entry_count))
    below_read = pointer_below-opens image frame 3 (n / entry_count) (directory_pointer image root (n / entry_count)) payload (λ l. entry_pointer (entry_in l (n % entry_count))) opens

    length_read : length_in image root n ≡ entry_length (entry_in payload (n % entry_count))
    length_read = ap (λ p. entry_length (entry_in p (n % entry_count))) opens.block.payload_is

    one_level : (bytes : List ℕ) → IsOneLevelObject image frame n (entry_in payload (n % entry_count)) bytes → (m k : ℕ) → m < indirect_count → object_of_indirect m ≡ n → k < pointer_count
        → IsRecord image frame m k (data_pointer image root m k) bytes
    one_level bytes one m k low of_n k_low =
        let level : levels_in image root (object_of_indirect m) ≡ 1 = ap (λ (i : ℕ). levels_in image root i) of_n ∙ levels_read ∙ one.0 in
        let other : levels_in image root (object_of_indirect m) ≢ 2 = λ two. absurd (omega (arith, level, two)) in
        elim (cases_eq (strip_of m) 0) as (λ _. IsRecord image frame m k (data_pointer image root m k) bytes) [
          | inl first ↦
              let same : n ≡ m = sym of_n ∙ first-number m first in
              let named : indirect_pointer image root m ≡ entry_pointer (entry_in payload (n % entry_count)) =
              indirect-first image root m other first ∙ ap (λ (i : ℕ). below_pointer image root i) of_n ∙ below_read in
              strip_records m (entry_pointer (entry_in payload (n % entry_count))) bytes named
              (subst (λ (i : ℕ). IsStrip image frame i (entry_pointer (entry_in payload (n % entry_count))) bytes) same one.2) k k_low
          | inr later ↦ later_records m bytes one.1 later (indirect-later image root m other later) k
        ]

    two_levels : (bytes : List ℕ) → IsTwoLevelObject image frame n (entry_in payload (n % entry_count)) bytes → (m k : ℕ) → m < indirect_count → object_of_indirect m ≡ n → k < pointer_count
        → IsRecord image frame m k (data_pointer image root m k) bytes
    two_levels bytes two m k low of_n k_low =
        let level : levels_in image root (object_of_indirect m) ≡ 2 = ap (λ (i : ℕ). levels_in image root i) of_n ∙ levels_read ∙ two.0 in
        let named = indirect-two image root m level in
        let top : top_pointer image root (object_of_indirect m) ≡ entry_pointer (entry_in payload (n % entry_count)) =
        top-two image root (object_of_indirect m) level ∙ ap (λ (i : ℕ). below_pointer image root i) of_n ∙ below_read in
        let number : strip_number n (strip_of m) ≡ m = ap (λ (i : ℕ). strip_number i (strip_of m)) (sym of_n) ∙ number-back m in
        elim (two.3) as (λ _. IsRecord image frame m k (data_pointer image root m k) bytes) [
          | inl hole ↦
              strip_records m no_pointer bytes
              (named ∙ pointer_below-none image (top_pointer image root (object_of_indirect m)) (λ l. pointer_in l (strip_of m)) (top ∙ hole.0))
              (subst (λ (i : ℕ). IsStrip image frame i no_pointer bytes) number (hole.1 (strip_of m) (number-strip m low))) k k_low
          | inr o ↦
              let here : Opens image frame 7 n (top_pointer image root (object_of_indirect m)) o.0 = subst (λ (q : Pointer). Opens image frame 7 n q o.0) (sym top) o.1 in
              strip_records m (pointer_in o.0 (strip_of m)) bytes
              (named ∙ pointer_below-opens image frame 7 n (top_pointer image root (object_of_indirect m)) o.0 (λ l. pointer_in l (strip_of m)) here)
              (subst (λ (i : ℕ). IsStrip image frame i (pointer_in o.0 (strip_of m)) bytes) number (o.2 (strip_of m) (number-strip m low)).0) k k_low
        ]

    by_entry : (o : Option (List ℕ)) → IsEntry image frame n (entry_in payload (n % entry_count)) o → IsOnPath image frame root n o
    by_entry None zeros = levels_read ∙ ap entry_present zeros ∙ zero_present
    by_entry (Some bytes) (long, inl one) = record {
      there = λ none. let level : levels_in image root n ≡ 1 = levels_read ∙ one.0 in absurd (omega (arith, level, none));
      size = length_read ∙ long;
      records = one_level bytes one;
    }
    by_entry (Some bytes) (long, inr (later, two)) = record {
      there = λ none. let level : levels_in image root n ≡ 2 = levels_read ∙ two.0 in absurd (omega (arith, level, none));
      size = length_read ∙ long;
      records = two_levels bytes two;
    }

pub tree_by_path : (image : List ℕ) (frame : Frame) (root : Pointer) (objects : FinMap nat_cmp (List ℕ)) → IsTree image frame root objects
    → (n : ℕ) → n < object_count → IsOnPath image frame root n (finite.get objects n)
tree_by_path image frame root objects tree n below =
    let d_below : n / 63 < 84 = omega (arith, below) in
    let k_below : n % 63 < 63 = omega arith in
    elim (directory-at image frame root objects tree (n / entry_count) d_below) as (λ _. IsOnPath image frame root n (finite.get objects n)) [
      | inl h ↦
          let none : finite.get objects n ≡ None = ap (λ (m : ℕ). finite.get objects m) (sym (div-add-mod n entry_count)) ∙ h.1 (n % entry_count) k_below in
          subst (λ (o : Option (List ℕ)). IsOnPath image frame root n o) (sym none)
          (number_below-none image (directory_pointer image root (n / entry_count)) (λ l. entry_present (entry_in l (n % entry_count))) h.0)
      | inr h ↦ by_entry image frame root n h.0 h.1 (finite.get objects n)
          (subst (λ (m : ℕ). IsEntry image frame m (entry_in h.0 (n % entry_count)) (finite.get objects m)) (div-add-mod n entry_count) (h.2 (n % entry_count) k_below))
    ]

-- the entry of object n, from the payload of its directory
pub entry_at : (image : List ℕ) (frame : Frame) (root : Pointer) (n : ℕ) (pointer : Pointer) (payload : List ℕ) (entry : Entry) → pointer_of image root (Directory (n / entry_count)) ≡ pointer
    → OpensAt image frame (Directory (n / entry_count)) pointer payload → entry.present ≡ entry_present (entry_in payload (n % entry_count))
    → entry.pointer ≡ entry_pointer (entry_in payload (n % entry_count)) → entry.length ≡ entry_length (entry_in payload (n % entry_count)) → IsObjectAt image root n entry
entry_at image frame root n pointer payload entry at opens is_present is_pointer is_length =
    let low : n % 63 < 63 = omega arith in
    subst (λ (m : ℕ). IsObjectAt image root m entry) (div-add-mod n entry_count)
    (entry_linked image frame root (n / entry_count) (n % entry_count) payload entry low (record { pointer = pointer; at = at; opens = opens }) is_present is_pointer is_length)

-- no directory, no object
pub none_above : (image : List ℕ) (root : Pointer) (n : ℕ) (pointer : Pointer) → pointer_of image root (Directory (n / entry_count)) ≡ pointer → pointer ≡ no_pointer → levels_in image root n ≡ 0
none_above image root n pointer at none =
    number_below-none image (directory_pointer image root (n / entry_count)) (λ l. entry_present (entry_in l (n % entry_count))) (at ∙ none)
