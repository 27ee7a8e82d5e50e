-- What a device that holds the synced tree has of one object.
use Rattle.std.proofs.Common.{◌≡◌, ◌≢◌, ◌*◌, ◌/◌, ◌%◌, ◌<◌, ◌∙◌, inl, inr, ℕ, List, length, get_or, Option, Some, None, true, false, Bool, refl, sym, ap, subst, arith}
use Rattle.std.specs.Prelude.{IsTrue, nat_lt, option_map, slice_get, if◌then◌else◌}
use Rattle.std.specs.Option.{option_map_or}
use Rattle.std.specs.FinMap as finite
use Rattle.std.proofs.lemmas.Option.{slice_get-get_or}
use Rattle.std.proofs.lemmas.Bool.{cases_lt, false≢true, ltb-true, ne_eqb}
use Rattle.base.specs.declared.pointer.Pointer.{Pointer}
use Rattle.base.specs.disk.Disk.{Disk, bytes_of}
use Rattle.base.specs.formats.Fields.{no_pointer}
use Rattle.base.specs.formats.Limits.{object_count, one_level_length, pointer_count, record_count}
use Rattle.base.specs.tree.Places.{Place, object_of_indirect, record_start, strip_number, strip_of, strip_start}
use Rattle.base.specs.tree.Places.Place.{Top, Indirect, Data}
use Rattle.base.specs.kept.PlacedTrees.{HasNonePast, HoldsTree, IsLong, NeedsNoTop}
use Rattle.base.specs.tree.Tree.{IsRecord}
use Rattle.base.proofs.tree.PlacedTrees.{holds-placed, not_both, record_at}
use Rattle.base.proofs.tree.Strips.{record-count, strip-low, strip-object, strip-which}
use Rattle.device_model.specs.declared.device.SectorDevice.{Ghosts}
use Rattle.object_maps.specs.Cached.{HoldsStrip, HoldsTop, IsPointerInside}
use Rattle.tree_blocks.specs.Lengths.{length_in}
use Rattle.tree_blocks.specs.Pointers.{ObjectPointers, is_long_entry, no_pointers, object_pointers, pointers_of, pointers_of_entry}
use Rattle.tree_blocks.specs.declared.tree.ObjectEntry.{ObjectEntry}
use Rattle.tree_blocks.specs.declared.tree.Tree.{Tree}
use Rattle.object_maps.proofs.ObjectReads.{records_formed}
use Rattle.tree_blocks.proofs.ToldStrips.{entry-short}
use Rattle.object_reads.specs.declared.shown_tree.ShownTree.{ShownTree}
use Rattle.object_reads.specs.ShownTrees.{StandsOn, synced_objects}

pub bytes_long : (o : Option (List ℕ)) (size : ℕ) → Some size ≡ option_map length o → (bytes : List ℕ) × (o ≡ Some bytes) × (length bytes ≡ size)
bytes_long (Some bytes) size is = (bytes, refl, cc)
bytes_long None size is = absurd cc

-- an object with more bytes than one level holds is one of two levels
bytes_of_long : (o : Option (List ℕ)) → IsLong o → (bytes : List ℕ) × (o ≡ Some bytes) × (one_level_length < length bytes)
bytes_of_long (Some bytes) long = (bytes, refl, long)
bytes_of_long None long = absurd long

long_by_length : (o : Option (List ℕ)) (size : Option ℕ) → size ≡ option_map length o → option_map_or (λ (s : ℕ). nat_lt one_level_length s) size false ≡ true → IsLong o
long_by_length (Some bytes) size is long =
    ltb-true one_level_length (length bytes) (subst (λ (s : Option ℕ). option_map_or (λ (l : ℕ). nat_lt one_level_length l) s false ≡ true) is long)
long_by_length None size is long = absurd (false≢true (subst (λ (s : Option ℕ). option_map_or (λ (l : ℕ). nat_lt one_level_length l) s false ≡ true) is long))

-- the entry of an object of a tree in memory
module _ (t : Tree) (n : ℕ) (e : ObjectEntry) (low : n < object_count) (n_low : n < length t.entries.items) (is : e ≡ get_or t.entries.items n e) where
  stored_here : slice_get t.entries.items n ≡ Some e
  stored_here = slice_get-get_or t.entries.items n e n_low ∙ ap Some (sym is)

  entry_pointers : object_pointers t.entries.items n ≡ pointers_of_entry e
  entry_pointers = ap (λ (o : Option ObjectEntry). option_map_or pointers_of_entry o no_pointers) stored_here

  entry_length : length_in t.entries.items n ≡ e.length
  entry_length = ap (λ (o : Option ObjectEntry). option_map_or (λ (x : ObjectEntry). x.length) o None) stored_here

  -- the pointer to its top, and to the indirect block of one of its strips
  entry_top : pointers_of t (Top n) ≡ (pointers_of_entry e).top
  entry_top = ap (λ (p : ObjectPointers). p.top) entry_pointers

  entry_strip : (j : ℕ) → pointers_of t (Indirect (strip_number n j)) ≡ (pointers_of_entry e).strip j
  entry_strip j =
      ap (λ (i : ℕ). (object_pointers t.entries.items i).strip (strip_of (strip_number n j))) (strip-object n j low)
      ∙ ap (λ (i : ℕ). (object_pointers t.entries.items n).strip i) (strip-which n j low) ∙ ap (λ (p : ObjectPointers). p.strip j) entry_pointers

  -- an object of one level has its first strip alone
  pub short_first : is_long_entry e ≡ false → pointers_of t (Indirect (strip_number n 0)) ≡ e.pointer
  short_first short = entry_strip 0 ∙ ap (λ (p : ObjectPointers). p.strip 0) (entry-short e short)

  pub short_later : (j : ℕ) → is_long_entry e ≡ false → j ≢ 0 → pointers_of t (Indirect (strip_number n j)) ≡ no_pointer
  short_later j short later =
      entry_strip j ∙ ap (λ (p : ObjectPointers). p.strip j) (entry-short e short) ∙ ap (λ (b : Bool). if b then e.pointer else no_pointer) (ne_eqb j 0 later)

  -- its levels are those of the object whose length it has
  pub entry_is_long : (o : Option (List ℕ)) → length_in t.entries.items n ≡ option_map length o → is_long_entry e ≡ true → IsLong o
  entry_is_long o size long = long_by_length o e.length (sym entry_length ∙ size) long

module _ {Dev : Type 0} (D : Ghosts Dev) (t : ShownTree) where
  -- a disk that stays holds the tree, before and after
  pub stood_before : (old new : Dev) → (IsTrue D.keeps_model → D.disk new ≡ D.disk old) → StandsOn D new t → StandsOn D old t
  stood_before old new same stands = record {
    keeps = stands.keeps;
    tree = subst (λ (d : Disk). HoldsTree (bytes_of d.now) t.frame (pointers_of t.tree.now) (synced_objects t)) (same stands.keeps) stands.tree;
  }

  -- a disk that stays holds the tree
  pub stands_still : (old new : Dev) → (IsTrue D.keeps_model → D.disk new ≡ D.disk old) → StandsOn D old t → StandsOn D new t
  stands_still old new same stands = record {
    keeps = stands.keeps;
    tree = subst (λ (d : Disk). HoldsTree (bytes_of d.now) t.frame (pointers_of t.tree.now) (synced_objects t)) (sym (same stands.keeps)) stands.tree;
  }

  -- the top of an object of two levels, by the object's entry
  pub holds_top : (device : Dev) → StandsOn D device t → (n : ℕ) (e : ObjectEntry) (top : Pointer) → n < object_count → n < length t.tree.now.entries.items
      → e ≡ get_or t.tree.now.entries.items n e → top ≡ (pointers_of_entry e).top → IsLong (finite.get (synced_objects t) n)
      → (bytes : List ℕ) × HoldsTop (bytes_of (D.disk device).now) t.frame n top (pointers_of t.tree.now) bytes
  holds_top device stands n e top low n_low is at long =
      let b = bytes_of_long (finite.get (synced_objects t) n) long in
      (b.0, record { objects = synced_objects t; tree = stands.tree; object = b.1; long = b.2; top_is = entry_top t.tree.now n e low n_low is ∙ sym at })

  module _ (device : Dev) (stands : StandsOn D device t) (n : ℕ) (bytes : List ℕ) (low : n < object_count) (is : finite.get (synced_objects t) n ≡ Some bytes) where
    abbrev image : List ℕ
    image = bytes_of (D.disk device).now

    abbrev told : Place → Pointer
    told = pointers_of t.tree.now

    -- a pointer of the top is none, or names a block of a strip that the object reaches
    none_of_long : (j : ℕ) → one_level_length < length bytes → NeedsNoTop (finite.get (synced_objects t) n) j (told (Indirect (strip_number n j))) → told (Indirect (strip_number n j)) ≡ no_pointer
    none_of_long j long (inl none) = none
    none_of_long j long (inr (first, short)) =
        absurd (not_both (finite.get (synced_objects t) n) short (subst IsLong (sym is) long))

    inside : (j : ℕ) → j < pointer_count → HasNonePast (finite.get (synced_objects t) n) j (told (Indirect (strip_number n j)))
        → IsPointerInside t.frame.blocks (length bytes) (strip_start j) (told (Indirect (strip_number n j)))
    inside j j_low past = elim (cases_lt (strip_start j) (length bytes)) [
      | inl before ↦ elim (holds-placed image t.frame told (synced_objects t) stands.tree (Indirect (strip_number n j)) (strip-low n j low j_low)) [
        | inl none ↦ inl none
        | inr block ↦ inr (before, block)
      ]
      | inr end ↦ inl (subst (λ (o : Option (List ℕ)). HasNonePast o j (told (Indirect (strip_number n j)))) is past end)
    ]

    pub strip_formed : (j size : ℕ) (pointer : Pointer) → j < pointer_count → one_level_length < length bytes → length bytes ≡ size → pointer ≡ told (Indirect (strip_number n j))
        → IsPointerInside t.frame.blocks size (strip_start j) pointer
    strip_formed j size pointer j_low long size_is at =
        subst (λ (p : Pointer). IsPointerInside t.frame.blocks size (strip_start j) p) (sym at)
        (subst (λ (s : ℕ). IsPointerInside t.frame.blocks s (strip_start j) (told (Indirect (strip_number n j)))) size_is
        (elim (stands.tree.each (Top n) low) as (λ _. IsPointerInside t.frame.blocks (length bytes) (strip_start j) (told (Indirect (strip_number n j)))) [
          | inl none ↦ inl (none_of_long j long (none.1 j j_low))
          | inr block ↦ inside j j_low (block.3 j j_low).1
        ]))

    -- the indirect block of one of its strips
    object_of_strip : (j : ℕ) → finite.get (synced_objects t) (object_of_indirect (strip_number n j)) ≡ Some bytes
    object_of_strip j = ap (λ (i : ℕ). finite.get (synced_objects t) i) (strip-object n j low) ∙ is

    pub holds_strip : (j m : ℕ) (indirect : Pointer) → m ≡ strip_number n j → indirect ≡ told (Indirect (strip_number n j)) → HoldsStrip image t.frame m indirect told bytes
    holds_strip j m indirect m_is at =
        subst (λ (s : ℕ). HoldsStrip image t.frame s indirect told bytes) (sym m_is)
        (record { objects = synced_objects t; tree = stands.tree; object = object_of_strip j; indirect_is = sym at })

    -- A record of the object is one of the strip that has this number. A pointer that stands at its place names it,
    -- and it begins where the record of the object does.
    module _ (r m : ℕ) (r_low : r < record_count) (m_is : m ≡ strip_number n (r / 84)) where
      abbrev at_record : Pointer
      at_record = told (Data (strip_number n (r / 84)) (r % 84))

      j_low : r / 84 < 84
      j_low = omega (arith, r_low, record-count)

      k_low : r % 84 < 84
      k_low = omega arith

      pub record_begins : record_start m (r % 84) ≡ 4032 * r
      record_begins = omega (arith, m_is, low)

      pub holds_record : (pointer : Pointer) → pointer ≡ at_record → IsRecord image t.frame m (r % 84) pointer bytes
      holds_record pointer at =
          subst (λ (s : ℕ). IsRecord image t.frame s (r % 84) pointer bytes) (sym m_is)
          (subst (λ (p : Pointer). IsRecord image t.frame (strip_number n (r / 84)) (r % 84) p bytes) (sym at)
          (record_at image t.frame told (synced_objects t) stands.tree (strip_number n (r / 84)) (r % 84) bytes (strip-low n (r / 84) low j_low) k_low (object_of_strip (r / 84))))

      pub record_formed : (size : ℕ) (pointer : Pointer) → length bytes ≡ size → pointer ≡ at_record → IsPointerInside t.frame.blocks size (record_start m (r % 84)) pointer
      record_formed size pointer size_is at =
          subst (λ (s : ℕ). IsPointerInside t.frame.blocks size (record_start s (r % 84)) pointer) (sym m_is)
          (subst (λ (p : Pointer). IsPointerInside t.frame.blocks size (record_start (strip_number n (r / 84)) (r % 84)) p) (sym at)
          (subst (λ (s : ℕ). IsPointerInside t.frame.blocks s (record_start (strip_number n (r / 84)) (r % 84)) at_record) size_is
          (records_formed image t.frame (strip_number n (r / 84)) (told (Indirect (strip_number n (r / 84)))) told bytes (strip-low n (r / 84) low j_low)
          (holds_strip (r / 84) (strip_number n (r / 84)) (told (Indirect (strip_number n (r / 84)))) refl refl) (r % 84) k_low)))
