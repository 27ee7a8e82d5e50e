-- What a block of an object's path that was read says of its place and of those below, and what its refusal tells.
use Rattle.std.proofs.Common.{◌≡◌, ◌≢◌, ◌+◌, ◌-◌, ◌*◌, ◌/◌, ◌%◌, ◌<◌, ◌≤◌, ◌∙◌, inl, inr, ℕ, List, length, take, drop, replicate, get_or, sym, ap, subst, min, arith}
use lib.Dec.{eqb}
use Rattle.std.specs.Option.{option_eq}
use Rattle.std.specs.Prelude.{Option, Some, None, true}
use Rattle.std.proofs.lemmas.Bool.{eqb-true, false≢true}
use Rattle.base.specs.declared.error.PoolError.{PoolError}
use Rattle.base.specs.declared.error.PoolError.TheVariants.{Damaged}
use Rattle.base.specs.declared.pointer.Pointer.{Pointer}
use Rattle.base.specs.formats.Blocks.{Frame}
use Rattle.base.specs.formats.Fields.{no_pointer, pointer_in}
use Rattle.base.specs.formats.Limits.{object_count, pointer_count, record_count, record_size}
use Rattle.base.specs.kept.PlacedTrees.{padded_record}
use Rattle.base.specs.tree.Damages.{IsRecordPointerForm, IsSoundAt, length_in}
use Rattle.base.specs.tree.Places.{indirect_pointer, levels_in, object_of_indirect, pointer_of, record_number, record_start, strip_number, strip_start}
use Rattle.base.specs.tree.Places.Place.{Indirect, Top}
use Rattle.base.specs.tree.Tree.{OpensAt, record_bytes}
use Rattle.base.proofs.tree.LevelPointers.{pointer_below-none}
use Rattle.base.proofs.tree.Strips.{first-strip, strip-object}
use Rattle.object_maps.specs.Cached.{IsBlockRefusal, IsReadRefusal}
use Rattle.object_maps.proofs.ObjectReads.{hole_bytes, part_bytes, record_hole, record_opens}
use Rattle.tree_blocks.specs.Forms.{AreRecordForms, AreStripForms}
use Rattle.tree_blocks.specs.declared.forms.Entry.{Entry}
use Rattle.trees.specs.ObjectPaths.{TellsPlace}
use Rattle.trees.specs.Walking.{IsIndirectOf, IsObjectAt, IsTopOf}
use Rattle.trees.proofs.WalkParts.{first_strip, later_strips, no_top, records_linked, top_at, top_none, top_strips}
use Rattle.object_views.proofs.TestedBlocks.{one_payload, padded, padded_zeros, tells_formless, tells_missing, tested}
use Rattle.object_views.specs.ReadPaths.{AreRecordBytes, IsBlockMissing, IsPayloadRead, IsStripRead, IsTopRead, TellsStrip, record_place}

-- a block is refused as a read is
pub of_block : (kind address : ℕ) (e : PoolError) → IsBlockRefusal kind address e → IsReadRefusal e
of_block kind address e (inl is) = inl is
of_block kind address e (inr is) = inr (kind, address, is)

-- a strip that is the last one that was read
pub same_strip : (last : Option ℕ) (j : ℕ) → true ≡ option_eq eqb last (Some j) → last ≡ Some j
same_strip (Some i) j is = ap Some (eqb-true i j (sym is))
same_strip None j is = absurd (false≢true (sym is))

-- a pointer to nothing has its form
none_formed : (size start : ℕ) (p : Pointer) → p ≡ no_pointer → IsRecordPointerForm size start p
none_formed size start p none = (λ _. inl none, λ _. none)

module _ (image : List ℕ) (frame : Frame) (root : Pointer) (n : ℕ) (entry : Entry) (low : n < object_count) (o : IsObjectAt image root n entry) where
  -- the length of the object, at one of its strips
  pub size_at : (j : ℕ) → length_in image root (object_of_indirect (strip_number n j)) ≡ entry.length
  size_at j = ap (λ (i : ℕ). length_in image root i) (strip-object n j low) ∙ o.size_is

  pub strip_of_object : (j : ℕ) (pointer : Pointer) → pointer_of image root (Indirect (strip_number n j)) ≡ pointer → IsIndirectOf image root (strip_number n j) pointer entry.length
  strip_of_object j pointer at = record { at = at; size_is = size_at j }

  -- an object of one level has no top, and its first strip alone
  module _ (one : entry.present ≢ 2) where
    short : levels_in image root n ≢ 2
    short two = one (sym o.levels ∙ two)

    pub short_top : IsSoundAt image frame root (Top n)
    short_top = inl (no_top image frame root n short)

    pub short_strip : (j : ℕ) → j ≡ 0 → pointer_of image root (Indirect (strip_number n j)) ≡ entry.pointer
    short_strip j first =
        ap (λ (i : ℕ). pointer_of image root (Indirect i)) (ap (λ (i : ℕ). strip_number n i) first ∙ first-strip n) ∙ first_strip image root n low short ∙ o.at

    pub short_rest : (j : ℕ) → j ≢ 0 → j < pointer_count → pointer_of image root (Indirect (strip_number n j)) ≡ no_pointer
    short_rest j later inside = later_strips image root n low short j (omega (arith, later)) inside

  -- the top of one of two levels
  module _ (two : entry.present ≡ 2) where
    of_top : IsTopOf image root n entry.pointer entry.length
    of_top = record { levels = o.levels ∙ two; at = o.at; size_is = o.size_is }

    pub top_missing : (e : PoolError) → IsBlockMissing image frame (Top n) entry.pointer e → TellsPlace image frame root (Top n) e
    top_missing e missing = tells_missing image frame root (Top n) entry.pointer (top_at image root n entry.length entry.pointer of_top) missing.0 e missing.1

    module _ (payload : List ℕ) (read : IsPayloadRead image frame (Top n) entry.pointer payload) where
      pub top_read : AreStripForms entry.length payload → IsTopRead image frame root n payload
      top_read formed = elim read as (λ _. IsTopRead image frame root n payload) [
        | inl none ↦ record {
          top = inl (top_at image root n entry.length entry.pointer of_top ∙ none.0);
          at = λ j inside. top_none image root n entry.length entry.pointer low of_top none.0 j inside ∙ sym (none.1 j inside);
        }
        | inr block ↦ record {
          top = tested image frame root (Top n) entry.pointer payload (top_at image root n entry.length entry.pointer of_top) block.1
              (λ j within. subst (λ (s : ℕ). IsRecordPointerForm s (strip_start j) (pointer_in payload j)) (sym o.size_is) (formed j within));
          at = (top_strips image frame root n entry.length entry.pointer payload low of_top block.1).at;
        }
      ]

      pub top_formless : (e : PoolError) → (AreStripForms entry.length payload → ⊥) → e ≡ Damaged 7 entry.pointer.address → TellsPlace image frame root (Top n) e
      top_formless e not is = elim read as (λ _. TellsPlace image frame root (Top n) e) [
        | inl none ↦ absurd (not (λ j inside. none_formed entry.length (strip_start j) (pointer_in payload j) (none.1 j inside)))
        | inr block ↦ tells_formless image frame root (Top n) entry.pointer (top_at image root n entry.length entry.pointer of_top) block.0 payload e block.1
            (λ formed. not (λ j within. subst (λ (s : ℕ). IsRecordPointerForm s (strip_start j) (pointer_in payload j)) o.size_is (formed j within))) is
      ]

-- the indirect block of a strip
module _ (image : List ℕ) (frame : Frame) (root : Pointer) (n j size : ℕ) (pointer : Pointer) (low : n < object_count) (inside : j < pointer_count)
    (i : IsIndirectOf image root (strip_number n j) pointer size) where
  pub strip_missing : (e : PoolError) → IsBlockMissing image frame (Indirect (strip_number n j)) pointer e → TellsStrip image frame root n j e
  strip_missing e missing = inr (tells_missing image frame root (Indirect (strip_number n j)) pointer i.at missing.0 e missing.1)

  module _ (payload : List ℕ) (read : IsPayloadRead image frame (Indirect (strip_number n j)) pointer payload) where
    pub strip_read : IsSoundAt image frame root (Top n) → AreRecordForms (strip_number n j) size payload → IsStripRead image frame root n j payload
    strip_read top formed = elim read as (λ _. IsStripRead image frame root n j payload) [
      | inl none ↦ record {
        top = top;
        indirect = inl (i.at ∙ none.0);
        at = λ k within. pointer_below-none image (indirect_pointer image root (strip_number n j)) (λ (l : List ℕ). pointer_in l k) (i.at ∙ none.0) ∙ sym (none.1 k within);
      }
      | inr block ↦ record {
        top = top;
        indirect = tested image frame root (Indirect (strip_number n j)) pointer payload i.at block.1
            (λ k within. subst (λ (s : ℕ). IsRecordPointerForm s (record_start (strip_number n j) k) (pointer_in payload k)) (sym i.size_is) (formed k within));
        at = (records_linked image frame root (strip_number n j) size pointer payload i block.1).at;
      }
    ]

    pub strip_formless : (e : PoolError) → (AreRecordForms (strip_number n j) size payload → ⊥) → e ≡ Damaged 4 pointer.address → TellsStrip image frame root n j e
    strip_formless e not is = elim read as (λ _. TellsStrip image frame root n j e) [
      | inl none ↦ absurd (not (λ k within. none_formed size (record_start (strip_number n j) k) (pointer_in payload k) (none.1 k within)))
      | inr block ↦ inr (tells_formless image frame root (Indirect (strip_number n j)) pointer i.at block.0 payload e block.1
          (λ formed. not (λ k within. subst (λ (s : ℕ). IsRecordPointerForm s (record_start (strip_number n j) k) (pointer_in payload k)) i.size_is (formed k within))) is)
    ]

-- a record
module _ (image : List ℕ) (frame : Frame) (root : Pointer) (n r : ℕ) (low : n < object_count) (inside : r < record_count) where
  number : record_number (strip_number n (r / 84)) (r % 84) ≡ r
  number = omega (arith, low)

  module _ (pointer : Pointer) (at : pointer_of image root (record_place n r) ≡ pointer) where
    -- that is a hole
    module _ (none : pointer ≡ no_pointer) where
      pub hole_sound : IsSoundAt image frame root (record_place n r)
      hole_sound = inl (at ∙ none)

      pub hole_read : (start : ℕ) (into : List ℕ) → start + length into ≤ 4032 → ((i : ℕ) → i < length into → get_or into i 0 ≡ 0) → AreRecordBytes image frame root n r start into
      hole_read start into within zeros bytes is =
          hole_bytes r start bytes into within
          (subst (λ (q : ℕ). record_bytes q bytes ≡ replicate (length (record_bytes q bytes)) 0) number
          (record_hole image frame (strip_number n (r / 84)) (r % 84) (pointer_of image root (record_place n r)) bytes (at ∙ none) is)) zeros

    -- or that has a block
    module _ (some : pointer ≢ no_pointer) (payload : List ℕ) (opens : OpensAt image frame (record_place n r) pointer payload) where
      pub block_read : (start : ℕ) (into : List ℕ) → start + length into ≤ 4032 → into ≡ take (length into) (drop start payload) → AreRecordBytes image frame root n r start into
      block_read start into within copied bytes is =
          let o = record_opens image frame (strip_number n (r / 84)) (r % 84) (pointer_of image root (record_place n r)) bytes (λ none. some (sym at ∙ none)) is in
          let held : List ℕ = padded_record (record_number (strip_number n (r / 84)) (r % 84)) bytes in
          let opened = subst (λ (p : Pointer). OpensAt image frame (record_place n r) p held) at o.1 in
          part_bytes r start bytes payload into within
          (one_payload image frame 5 (84 * strip_number n (r / 84) + r % 84) pointer payload held opens opened ∙ ap (λ (q : ℕ). padded_record q bytes) number) copied

      module _ (size count : ℕ) (size_is : length_in image root (object_of_indirect (strip_number n (r / 84))) ≡ size) (long : length payload ≡ 4032) (count_is : count ≡ min (size - 4032 * r) 4032) where
        counted : count ≡ min (size - record_start (strip_number n (r / 84)) (r % 84)) 4032
        counted = count_is ∙ ap (λ (q : ℕ). min (size - 4032 * q) 4032) (sym number)

        past : length_in image root (object_of_indirect (strip_number n (r / 84))) - record_start (strip_number n (r / 84)) (r % 84) ≡ size - record_start (strip_number n (r / 84)) (r % 84)
        past = ap (λ (s : ℕ). s - record_start (strip_number n (r / 84)) (r % 84)) size_is

        pub block_sound : drop count payload ≡ replicate (length (drop count payload)) 0 → IsSoundAt image frame root (record_place n r)
        block_sound zeros =
            tested image frame root (record_place n r) pointer payload at opens
            (subst (λ (s : ℕ). drop s payload ≡ replicate (record_size - s) 0) (sym past) (padded payload (size - record_start (strip_number n (r / 84)) (r % 84)) count long counted zeros))

        pub block_formless : (e : PoolError) → (drop count payload ≡ replicate (length (drop count payload)) 0 → ⊥) → e ≡ Damaged 5 pointer.address → TellsPlace image frame root (record_place n r) e
        block_formless e not is =
            tells_formless image frame root (record_place n r) pointer at some payload e opens
            (λ formed. not (padded_zeros payload (size - record_start (strip_number n (r / 84)) (r % 84)) count long counted (subst (λ (s : ℕ). drop s payload ≡ replicate (record_size - s) 0) past formed))) is
