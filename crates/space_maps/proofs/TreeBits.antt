-- The bits after a sync are those of its tree.
use Rattle.std.proofs.Common.{◌≡◌, ℕ, ◌<◌, Bool, true, false, not, ◌&&◌, ◌||◌, List, map, refl, ap, sym, ◌∙◌, inl, inr}
use Rattle.std.specs.Prelude.{Some, slice_get, ◌↔◌}
use Rattle.std.specs.Ordering.{nat_cmp}
use Rattle.std.specs.FinMap.{FinMap}
use Rattle.std.proofs.lemmas.Bool.{and_parts, and_from, or_cases, cases_Bool, not-true, false≢true}
use Rattle.base.specs.declared.pointer.Pointer.{Pointer}
use Rattle.base.specs.formats.Blocks.{Frame}
use Rattle.base.specs.formats.Geometry.{block_address}
use Rattle.base.specs.steps.Locks.{is_in}
use Rattle.base.specs.tree.Places.{Place, IsInTree}
use Rattle.base.specs.tree.Places.Place.{Root}
use Rattle.base.specs.kept.PlacedTrees.{HoldsTree}
use Rattle.base.specs.kept.PlannedTrees.{NewBlock, IsTreePlan, AreFreed}
use Rattle.base.specs.kept.Stored.{AreBlocks, AreUsed, LeavesTree}
use Rattle.base.proofs.common.KeptLists.{at-map}
use Rattle.base.proofs.stored.StoredSets.{in-at, at-in, map-at}
use Rattle.base.proofs.tree.FreedBlocks.{IsNewAddress, in-new_tree, new-in_tree, stays-or_freed, freed-left}
use Rattle.space_maps.specs.Laws.{AreBitsOf, bits_after, MapsFollow}

module _ (area : ℕ) (image other : List ℕ) (frame grown : Frame) (bs : List NewBlock) (old new : Place → Pointer) (before after : FinMap nat_cmp (List ℕ))
    (taken freed : List ℕ) (bits : ℕ → Bool) (olds : HoldsTree image frame old before) (news : HoldsTree other grown new after) (planned : IsTreePlan bs grown old new before after) (leaves : LeavesTree bs old)
    (are : AreBlocks area bs) (used : AreUsed bs new) (freed_are : AreFreed old new freed) (taken_are : map (λ (b : NewBlock). b.address) bs ≡ taken) (h : AreBitsOf area image (old Root) bits) where
  taken-new : (address : ℕ) → is_in address taken ≡ true → IsNewAddress bs address
  taken-new address is =
      let at = in-at address taken is in
      let found = at-map (λ (b : NewBlock). b.address) bs at.0 address (ap (λ (l : List ℕ). slice_get l at.0) taken_are ∙ at.1) in
      (at.0, found.0, found.1, found.2)

  new-taken : (address : ℕ) → IsNewAddress bs address → is_in address taken ≡ true
  new-taken address is =
      at-in address taken (
        is.0,
        ap (λ (l : List ℕ). slice_get l is.0) (sym taken_are) ∙ map-at (λ (b : NewBlock). b.address) bs is.0 is.1 is.2 ∙ ap (λ (a : ℕ). Some a) is.3,
      )

  free-left : (k : ℕ) → k < area → bits_after taken freed bits k ≡ true → IsInTree other (new Root) (block_address k) → ⊥
  free-left k below is in_tree =
      let parts = and_parts (bits k || is_in (block_address k) freed) (not (is_in (block_address k) taken)) is in
      let untaken : is_in (block_address k) taken ≡ false = not-true (is_in (block_address k) taken) parts.1 in
      elim (or_cases (bits k) (is_in (block_address k) freed) parts.0) as (λ _. ⊥) [
        | inl free ↦ elim (in-new_tree image other frame grown bs old new before after olds news planned leaves (block_address k) in_tree) as (λ _. ⊥) [
          | inl was ↦ (h k below).0 free was
          | inr is_new ↦ false≢true (sym untaken ∙ new-taken (block_address k) is_new)
        ]
        | inr back ↦ let at = in-at (block_address k) freed back in
            freed-left image other frame grown bs old new before after olds news planned leaves freed freed_are at.0 (block_address k) at.1 in_tree
      ]

  not-taken : (k : ℕ) → (IsInTree other (new Root) (block_address k) → ⊥) → not (is_in (block_address k) taken) ≡ true
  not-taken k gone = elim (cases_Bool (is_in (block_address k) taken)) as (λ _. not (is_in (block_address k) taken) ≡ true) [
    | inl is ↦ absurd (gone (new-in_tree image other frame grown bs old new before after olds news planned leaves area are used (block_address k) (taken-new (block_address k) is)))
    | inr is ↦ ap not is
  ]

  is-free : (k : ℕ) → k < area → (IsInTree other (new Root) (block_address k) → ⊥) → (bits k || is_in (block_address k) freed) ≡ true
  is-free k below gone = by_bits (bits k) refl
    where
      by_freed : (f : Bool) → is_in (block_address k) freed ≡ f → bits k ≡ false → f ≡ true
      by_freed true is used_is = refl
      by_freed false is used_is = absurd (false≢true (sym used_is ∙ (h k below).1 (λ was.
          elim (stays-or_freed image other frame grown bs old new before after olds news planned leaves freed freed_are (block_address k) was) as (λ _. ⊥) [
            | inl stays ↦ gone stays
            | inr at ↦ false≢true (sym is ∙ at-in (block_address k) freed at)
          ])))

      by_bits : (b : Bool) → bits k ≡ b → (b || is_in (block_address k) freed) ≡ true
      by_bits true is = refl
      by_bits false is = by_freed (is_in (block_address k) freed) refl is

  pub followed : AreBitsOf area other (new Root) (bits_after taken freed bits)
  followed k below = (
    free-left k below,
    λ gone. and_from (bits k || is_in (block_address k) freed) (not (is_in (block_address k) taken)) (is-free k below gone) (not-taken k gone),
  )

pub maps_follow : MapsFollow
maps_follow area image other frame grown bs old new before after taken freed bits olds news planned leaves are used freed_are taken_are h =
    followed area image other frame grown bs old new before after taken freed bits olds news planned leaves are used freed_are taken_are h
