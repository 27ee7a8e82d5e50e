-- What is told of a plan by some pointers of the tree before it is told by others that are the same at each place.
use Rattle.std.proofs.Common.{◌≡◌, ℕ, ◌+◌, ◌*◌, ◌<◌, List, refl, ap, sym, subst, ◌∙◌, arith, inl, inr}
use Rattle.std.specs.Prelude.{Some}
use Rattle.std.specs.Ordering.{nat_cmp}
use Rattle.std.specs.FinMap as finite
use Rattle.std.specs.FinMap.{FinMap}
use Rattle.base.specs.declared.names.ObjectId.{ObjectId}
use Rattle.base.specs.declared.pointer.Pointer.{Pointer}
use Rattle.base.specs.formats.Blocks.{Frame}
use Rattle.base.specs.formats.Fields.{no_pointer}
use Rattle.base.specs.formats.Limits.{entry_count}
use Rattle.base.specs.tree.Places.{Place, IsPlace, object_of_indirect, record_number, strip_number}
use Rattle.base.specs.tree.Places.Place.{Root, Directory, Top, Indirect, Data}
use Rattle.base.specs.kept.PlannedTrees.{AreFreed, IsPlannedAt, IsTreePlan, NewBlock, SameRecord}
use Rattle.base.specs.tree.Syncs.{written_by}
use Rattle.base.proofs.tree.Strips.{first-low, strip-low}
use Rattle.base.proofs.tree.WrittenPlaces.{written_by-same}
use Rattle.tree_plans.specs.declared.changes.ObjectChanges.{ObjectChanges}
use Rattle.tree_plans.specs.Plans.{AreApart, IsOf}
use Rattle.tree_plans.specs.Changes.{AreBornBefore, AreTreePointers, IsCoveredBy, IsEntryPointer, changes_of_group, has_address}

module _ (one other : Place → Pointer) (same : (place : Place) → IsPlace place → one place ≡ other place) (objects : List (ObjectId × ObjectChanges)) where
  pub covered_as : (before after : FinMap nat_cmp (List ℕ)) → IsCoveredBy objects other before after → IsCoveredBy objects one before after
  covered_as before after x = record {
    records = λ m k low k_low state. subst (λ (p : Pointer). SameRecord p (record_number m k) (finite.get before (object_of_indirect m)) (finite.get after (object_of_indirect m)))
        (sym (same (Data m k) (low, k_low))) (x.records m k low k_low state);
    holes = x.holes;
    entries = x.entries;
  }

  pub tree_as : (below : ℕ → Pointer) (after : FinMap nat_cmp (List ℕ)) → AreTreePointers objects below other after → AreTreePointers objects below one after
  tree_as below after x = record {
    absent = λ n low none gone. same (Indirect n) (first-low n low) ∙ x.absent n low none gone;
    entries = λ n low none.
        subst (λ (p : Pointer). IsEntryPointer (below n) p (one (Indirect n)) (finite.get after n)) (sym (same (Top n) low))
        (subst (λ (p : Pointer). IsEntryPointer (below n) (other (Top n)) p (finite.get after n)) (sym (same (Indirect n) (first-low n low))) (x.entries n low none));
    named_records = λ m k low k_low. subst (λ (p : Pointer). p.address ≡ 0 → p ≡ no_pointer) (sym (same (Data m k) (low, k_low))) (x.named_records m k low k_low);
    named_strips = λ m low. subst (λ (p : Pointer). p.address ≡ 0 → p ≡ no_pointer) (sym (same (Indirect m) low)) (x.named_strips m low);
    cut_off = λ n j low j_low there long ends named.
        x.cut_off n j low j_low there long ends (λ none. named (same (Indirect (strip_number n j)) (strip-low n j low j_low) ∙ none));
  }

  pub born_as : (group : ℕ) → AreBornBefore group other → AreBornBefore group one
  born_as group x place is = subst (λ (p : Pointer). p.birth < group) (sym (same place is)) (x place is)

  pub apart_as : AreApart other → AreApart one
  apart_as x p q address p_is q_is of_p of_q =
      x p q address p_is q_is (subst (λ (k : Pointer). IsOf k address) (same p p_is) of_p) (subst (λ (k : Pointer). IsOf k address) (same q q_is) of_q)

  pub freed_as : (new : Place → Pointer) (freed : List ℕ) → AreFreed one new freed → AreFreed other new freed
  freed_as new freed x = record {
    all = λ place is changed there.
        let told = same place is in
        let at = x.all place is (λ stays. changed (stays ∙ told)) (λ none. there (sym told ∙ none)) in
        (at.0, at.1 ∙ (λ k. Some ((told k).address)));
    no_others = λ i address at.
        let of = x.no_others i address at in
        let told = same of.0 of.1 in
        (of.0, of.1, (λ stays. of.2 (stays ∙ sym told)), sym (ap (λ (p : Pointer). p.address) told) ∙ of.3, (λ none. of.4 (told ∙ none)));
  }

  pub written_as : (after : FinMap nat_cmp (List ℕ)) → written_by (changes_of_group objects one after) ≡ written_by (changes_of_group objects other after)
  written_as after = written_by-same (changes_of_group objects one after) (changes_of_group objects other after) (record {
    states = λ n r low below. refl;
    blocks = λ m k low below. ap has_address (same (Data m k) (low, below));
    strips = λ m low. ap has_address (same (Indirect m) low);
    changed = λ n low. refl;
    touched = λ n low. refl;
    present = λ n low. refl;
    long = λ n low. refl;
  })

  module _ (bs : List NewBlock) (frame : Frame) (new : Place → Pointer) (before after : FinMap nat_cmp (List ℕ)) where
    stays_as : (place : Place) → IsPlace place → IsPlannedAt bs frame one new before after place → IsPlannedAt bs frame other new before after place
    stays_as Root is (inl (x, below)) = inl (x ∙ same Root tt, λ d low. below d low ∙ same (Directory d) low)
    stays_as Root is (inr x) = inr x
    stays_as (Directory d) is (inl (x, below)) = inl (
      x ∙ same (Directory d) is,
      λ k low.
          let n_low : entry_count * d + k < 5292 = omega (arith, is, low) in
          let at = below k low in
          (at.0 ∙ same (Indirect (entry_count * d + k)) (first-low (entry_count * d + k) n_low), at.1 ∙ same (Top (entry_count * d + k)) n_low, at.2),
    )
    stays_as (Directory d) is (inr x) = inr x
    stays_as (Top n) is (inl (x, entry, below)) = inl (x ∙ same (Top n) is, entry, λ j low. below j low ∙ same (Indirect (strip_number n j)) (strip-low n j is low))
    stays_as (Top n) is (inr x) = inr x
    stays_as (Indirect m) is (inl (x, below)) = inl (x ∙ same (Indirect m) is, λ k low. below k low ∙ same (Data m k) (is, low))
    stays_as (Indirect m) is (inr x) = inr x
    stays_as (Data m k) is (inl (x, record_is)) = inl (
      x ∙ same (Data m k) is,
      subst (λ (p : Pointer). SameRecord p (record_number m k) (finite.get before (object_of_indirect m)) (finite.get after (object_of_indirect m))) (same (Data m k) is) record_is,
    )
    stays_as (Data m k) is (inr x) = inr x

    pub plan_as : IsTreePlan bs frame one new before after → IsTreePlan bs frame other new before after
    plan_as plan place is = stays_as place is (plan place is)
