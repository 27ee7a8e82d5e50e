-- Which addresses the tree that a sync plans has: those of the new blocks, and of the old tree those that are not
-- freed.
use Rattle.std.proofs.Common.{◌≡◌, ℕ, ◌<◌, List, length, refl, ap, sym, subst, ◌∙◌, arith, ◌⊎◌, inl, inr}
use Rattle.std.specs.Prelude.{Option, Some, None, IfSome, ◌≢◌, slice_get}
use Rattle.std.specs.Ordering.{nat_cmp}
use Rattle.std.specs.FinMap as map
use Rattle.std.specs.FinMap.{FinMap}
use Rattle.base.specs.declared.pointer.Pointer.{Pointer}
use Rattle.base.specs.formats.Limits.{indirect_count, pointer_count}
use Rattle.base.specs.formats.Fields.{no_pointer}
use Rattle.base.specs.formats.Geometry.{block_address}
use Rattle.base.specs.formats.Blocks.{Frame}
use Rattle.base.specs.tree.Places.{Place, IsPlace, IsInTree, object_of_indirect, record_number, record_start}
use Rattle.base.specs.tree.Places.Place.{Root, Directory, Top, Indirect, Data}
use Rattle.base.specs.kept.PlacedTrees.{padded_record, HoldsTree}
use Rattle.base.specs.kept.PlannedTrees.{NewBlock, IsNewAt, IsPlannedAt, IsTreePlan, AreFreed}
pub use Rattle.base.specs.kept.Stored.{AreUsed}
use Rattle.base.proofs.tree.PlacedTrees.{absent-data, some-by_address, in-tree, told-in_tree, places-apart}
use Rattle.base.specs.kept.Stored.{AreBlocks, LeavesTree}

-- one of the new blocks is at this address
abbrev pub IsNewAddress : List NewBlock → ℕ → Type 0
IsNewAddress bs address = (i : ℕ) × (b : NewBlock) × (slice_get bs i ≡ Some b) × (b.address ≡ address)

module _ (image other : List ℕ) (frame grown : Frame) (bs : List NewBlock) (old new : Place → Pointer) (before after : FinMap nat_cmp (List ℕ))
    (olds : HoldsTree image frame old before) (news : HoldsTree other grown new after) (planned : IsTreePlan bs grown old new before after) (leaves : LeavesTree bs old) where
  -- a place keeps its pointer, has none, or has one of the new blocks
  abbrev pub Becomes : Place → Type 0
  Becomes place = (new place ≡ old place) ⊎ ((new place ≡ no_pointer) ⊎ IsNewAddress bs (new place).address)

  new-becomes : (place : Place) (payload : List ℕ) → IsNewAt bs grown place (new place) payload → Becomes place
  new-becomes place payload is = inr (inr (is.index, is.block, is.found, sym is.address))

  data-becomes : (m k : ℕ) (o : Option (List ℕ)) → m < indirect_count → k < pointer_count → map.get after (object_of_indirect m) ≡ o
      → IfSome o (λ bytes. (record_start m k < length bytes) × IsNewAt bs grown (Data m k) (new (Data m k)) (padded_record (record_number m k) bytes)) → Becomes (Data m k)
  data-becomes m k None low k_low is h = inr (inl (absent-data other grown new after news m k low k_low is))
  data-becomes m k (Some bytes) low k_low is h = new-becomes (Data m k) (padded_record (record_number m k) bytes) h.1

  planned-becomes : (place : Place) → IsPlace place → IsPlannedAt bs grown old new before after place → Becomes place
  planned-becomes Root in_range (inl p) = inl p.0
  planned-becomes Root in_range (inr (inl p)) = new-becomes Root p.0 p.1
  planned-becomes Root in_range (inr (inr p)) = inr (inl p.0)
  planned-becomes (Directory d) in_range (inl p) = inl p.0
  planned-becomes (Directory d) in_range (inr (inl p)) = new-becomes (Directory d) p.0 p.1
  planned-becomes (Directory d) in_range (inr (inr p)) = inr (inl p.0)
  planned-becomes (Top n) in_range (inl p) = inl p.0
  planned-becomes (Top n) in_range (inr (inl p)) = new-becomes (Top n) p.1 p.2
  planned-becomes (Top n) in_range (inr (inr p)) = inr (inl p.0)
  planned-becomes (Indirect m) in_range (inl p) = inl p.0
  planned-becomes (Indirect m) in_range (inr (inl p)) = new-becomes (Indirect m) p.0 p.1
  planned-becomes (Indirect m) in_range (inr (inr p)) = inr (inl p.0)
  planned-becomes (Data m k) in_range (inl p) = inl p.0
  planned-becomes (Data m k) in_range (inr (inl p)) = data-becomes m k (map.get after (object_of_indirect m)) in_range.0 in_range.1 refl p
  planned-becomes (Data m k) in_range (inr (inr p)) = inr (inl p.0)

  pub becomes : (place : Place) → IsPlace place → Becomes place
  becomes place in_range = planned-becomes place in_range (planned place in_range)

  at-place : (place : Place) (address : ℕ) → IsPlace place → new place ≢ no_pointer → (new place).address ≡ address → new place ≡ old place → IsInTree image (old Root) address
  at-place place address in_range some named same =
      subst (λ (a : ℕ). IsInTree image (old Root) a) (ap (λ (p : Pointer). p.address) (sym same) ∙ named) (told-in_tree image frame old before olds place in_range (λ none. some (same ∙ none)))

  -- an address of the new tree is one of the old tree or of a new block
  pub in-new_tree : (address : ℕ) → IsInTree other (new Root) address → IsInTree image (old Root) address ⊎ IsNewAddress bs address
  in-new_tree address is =
      let t = in-tree other grown new after news address is in
      elim (becomes t.0 t.1) as (λ _. IsInTree image (old Root) address ⊎ IsNewAddress bs address) [
        | inl same ↦ inl (at-place t.0 address t.1 t.3 t.2 same)
        | inr (inl none) ↦ absurd (t.3 none)
        | inr (inr h) ↦ inr (h.0, h.1, h.2, h.3 ∙ t.2)
      ]

  -- each new block is in the new tree, where each is used
  pub new-in_tree : (blocks : ℕ) → AreBlocks blocks bs → AreUsed bs new → (address : ℕ) → IsNewAddress bs address → IsInTree other (new Root) address
  new-in_tree blocks are used address h =
      let place = used h.0 h.1 h.2 in
      let area = are.in_area h.0 h.1 h.2 in
      let at : h.1.address ≡ block_address area.0 = area.2 in
      let named : (new place.0).address ≡ h.1.address = place.2 in
      subst (λ (a : ℕ). IsInTree other (new Root) a) (named ∙ h.3)
      (told-in_tree other grown new after news place.0 place.1 (some-by_address (new place.0) (λ zero_is. omega (arith, zero_is, named, at))))

  module _ (freed : List ℕ) (are_freed : AreFreed old new freed) where
    differs-freed : (place : Place) (address : ℕ) → IsPlace place → old place ≢ no_pointer → (old place).address ≡ address → new place ≢ old place → (i : ℕ) × (slice_get freed i ≡ Some address)
    differs-freed place address in_range some named differs =
        let f = are_freed.all place in_range differs some in
        (f.0, f.1 ∙ ap (λ (a : ℕ). Some a) named)

    -- an address of the old tree is one of the new tree, or freed
    pub stays-or_freed : (address : ℕ) → IsInTree image (old Root) address → IsInTree other (new Root) address ⊎ ((i : ℕ) × (slice_get freed i ≡ Some address))
    stays-or_freed address is =
        let t = in-tree image frame old before olds address is in
        elim (becomes t.0 t.1) as (λ _. IsInTree other (new Root) address ⊎ ((i : ℕ) × (slice_get freed i ≡ Some address))) [
          | inl same ↦ inl (subst (λ (a : ℕ). IsInTree other (new Root) a) (ap (λ (p : Pointer). p.address) same ∙ t.2)
              (told-in_tree other grown new after news t.0 t.1 (λ none. t.3 (sym same ∙ none))))
          | inr (inl none) ↦ inr (differs-freed t.0 address t.1 t.3 t.2 (λ same. t.3 (sym same ∙ none)))
          | inr (inr h) ↦ inr (differs-freed t.0 address t.1 t.3 t.2 (λ same. leaves t.0 t.1 t.3 h.0 h.1 h.2 (h.3 ∙ ap (λ (p : Pointer). p.address) same)))
        ]

    -- a freed address is one of the old tree
    pub freed-old : (i address : ℕ) → slice_get freed i ≡ Some address → IsInTree image (old Root) address
    freed-old i address at =
        let f = are_freed.no_others i address at in
        subst (λ (a : ℕ). IsInTree image (old Root) a) f.3 (told-in_tree image frame old before olds f.0 f.1 f.4)

    -- and none of the new tree
    pub freed-left : (i address : ℕ) → slice_get freed i ≡ Some address → IsInTree other (new Root) address → ⊥
    freed-left i address at is =
        let f = are_freed.no_others i address at in
        let t = in-tree other grown new after news address is in
        elim (becomes t.0 t.1) [
          | inl same ↦
              let named : (old t.0).address ≡ (old f.0).address = ap (λ (p : Pointer). p.address) (sym same) ∙ t.2 ∙ sym f.3 in
              let one : t.0 ≡ f.0 = places-apart image frame old before olds t.0 f.0 t.1 f.1 (λ none. t.3 (same ∙ none)) named in
              f.2 (subst (λ (p : Place). new p ≡ old p) one same)
          | inr (inl none) ↦ t.3 none
          | inr (inr h) ↦ leaves f.0 f.1 f.4 h.0 h.1 h.2 (h.3 ∙ t.2 ∙ sym f.3)
        ]
