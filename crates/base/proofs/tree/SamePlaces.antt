-- A tree that bytes hold by some pointers is held by others that are the same at each place.
use Rattle.std.proofs.Common.{◌≡◌, ℕ, ◌+◌, ◌*◌, ◌<◌, List, sym, subst, ◌∙◌, arith, inl, inr}
use Rattle.std.specs.Prelude.{IfSome}
use Rattle.std.specs.Ordering.{nat_cmp}
use Rattle.std.specs.FinMap as finite
use Rattle.std.specs.FinMap.{FinMap}
use Rattle.base.specs.declared.pointer.Pointer.{Pointer}
use Rattle.base.specs.formats.Blocks.{Frame}
use Rattle.base.specs.formats.Fields.{entry_in}
use Rattle.base.specs.formats.Limits.{entry_count}
use Rattle.base.specs.kept.PlacedTrees.{HoldsTree, IsEntryFor, NeedsNoTop, HasNonePast, StandsAt}
use Rattle.base.specs.tree.Places.{Place, IsPlace, object_of_indirect, strip_number}
use Rattle.base.specs.tree.Places.Place.{Root, Directory, Top, Indirect, Data}
use Rattle.base.specs.tree.Tree.{IsRecord, OpensAt}
use Rattle.base.proofs.tree.Strips.{first-low, strip-low}

module _ (image : List ℕ) (frame : Frame) (old new : Place → Pointer) (same : (place : Place) → IsPlace place → new place ≡ old place) (objects : FinMap nat_cmp (List ℕ)) where
  -- what stands at a place
  stands_as : (place : Place) → IsPlace place → StandsAt image frame old objects place → StandsAt image frame new objects place
  stands_as Root is (inl (none, below)) = inl (same Root tt ∙ none, λ d low. same (Directory d) low ∙ below d low)
  stands_as Root is (inr (payload, opens, below)) =
      inr (payload, subst (λ (p : Pointer). OpensAt image frame Root p payload) (sym (same Root tt)) opens, λ d low. below d low ∙ sym (same (Directory d) low))
  stands_as (Directory d) is (inl (none, below)) =
      inl (same (Directory d) is ∙ none, λ k low. ((below k low).0, same (Indirect (entry_count * d + k)) (first-low (entry_count * d + k) (omega (arith, is, low))) ∙ (below k low).1))
  stands_as (Directory d) is (inr (payload, opens, below)) =
      inr (
        payload,
        subst (λ (p : Pointer). OpensAt image frame (Directory d) p payload) (sym (same (Directory d) is)) opens,
        λ k low. let n_low : entry_count * d + k < 5292 = omega (arith, is, low) in
            subst (λ (p : Pointer). IsEntryFor frame (entry_in payload k) (new (Top (entry_count * d + k))) p (finite.get objects (entry_count * d + k)))
            (sym (same (Indirect (entry_count * d + k)) (first-low (entry_count * d + k) n_low)))
            (subst (λ (p : Pointer). IsEntryFor frame (entry_in payload k) p (old (Indirect (entry_count * d + k))) (finite.get objects (entry_count * d + k))) (sym (same (Top (entry_count * d + k)) n_low)) (below k low)),
      )
  stands_as (Top n) is (inl (none, below)) = inl (
    same (Top n) is ∙ none,
    λ j low. subst (λ (p : Pointer). NeedsNoTop (finite.get objects n) j p) (sym (same (Indirect (strip_number n j)) (strip-low n j is low))) (below j low),
  )
  stands_as (Top n) is (inr (long, payload, opens, below)) = inr (
    long,
    payload,
    subst (λ (p : Pointer). OpensAt image frame (Top n) p payload) (sym (same (Top n) is)) opens,
    λ j low. (
      (below j low).0 ∙ sym (same (Indirect (strip_number n j)) (strip-low n j is low)),
      subst (λ (p : Pointer). HasNonePast (finite.get objects n) j p) (sym (same (Indirect (strip_number n j)) (strip-low n j is low))) (below j low).1,
    ),
  )
  stands_as (Indirect m) is (inl (none, below)) = inl (same (Indirect m) is ∙ none, λ k low. same (Data m k) (is, low) ∙ below k low)
  stands_as (Indirect m) is (inr (payload, opens, below)) =
      inr (payload, subst (λ (p : Pointer). OpensAt image frame (Indirect m) p payload) (sym (same (Indirect m) is)) opens, λ k low. below k low ∙ sym (same (Data m k) (is, low)))
  stands_as (Data m k) is stands = subst (λ (p : Pointer). IfSome (finite.get objects (object_of_indirect m)) (λ bytes. IsRecord image frame m k p bytes)) (sym (same (Data m k) is)) stands

  pub holds_as : HoldsTree image frame old objects → HoldsTree image frame new objects
  holds_as x = record { no_others = x.no_others; each = λ place is. stands_as place is (x.each place is) }
