-- What the changes of an object say of its strips, and what becomes of a strip that a plan doesn't go over.
use Rattle.std.proofs.Common.{◌≡◌, ◌≢◌, ℕ, ◌+◌, ◌<◌, inl, inr, Bool, true, false, not, ◌&&◌, ◌||◌, List, Option, None, Some, refl, sym, ◌∙◌, ap, subst, arith}
use Rattle.std.specs.Prelude.{◌==◌, cond, is_some, vec_len, IfSome, if◌then◌else◌}
use Rattle.std.specs.BTreeMap as tree
use Rattle.std.specs.BTreeMap.{BTreeMap, is_at}
use Rattle.std.specs.Ordering.{is_eq}
use Rattle.std.specs.declared.cmp.Ordering.{Ordering}
use Rattle.std.specs.List.{list_any, range_with_len}
use Rattle.std.specs.Global.{Vec}
use Rattle.std.proofs.lemmas.Bool.{cases_Bool, cases_lt, eq-eqb, eqb-true, false_from_ne_true, false≢true, true≢false}
use Rattle.base.specs.declared.pointer.Pointer.{Pointer}
use Rattle.base.specs.declared.record_state.RecordState.{RecordState}
use Rattle.base.specs.declared.record_state.RecordState.TheVariants.{Unchanged, Dirty, Hole}
use Rattle.base.specs.formats.Fields.{no_pointer}
use Rattle.base.specs.formats.Limits.{pointer_count}
use Rattle.base.specs.tree.Places.{record_of_strip}
use Rattle.base.specs.tree.Syncs.{is_dirty, is_unchanged}
use Rattle.tree_blocks.specs.Pointers.{told_record}
use Rattle.tree_plans.specs.declared.changed_object.ChangedObject.{ChangedObject}
use Rattle.tree_plans.specs.declared.changes.ObjectChanges.{ObjectChanges}
use Rattle.tree_plans.specs.Changes.{is_strip_dirty, is_strip_touched, may_have_blocks, state_at}
use Rattle.tree_plans.specs.Parts.{AreMet, IsMapRead, IsOfMade, IsOfMadeAt, old_in}
use Rattle.tree_plans.specs.Plans.{AreRecordsPlanned, IsRecordPlanned, Progress, is_strip_replaced, kept_state}
use Rattle.tree_blocks.specs.ReadPointers.{records_among}
use Rattle.tree_blocks.proofs.ReadPointers.{among-get}
use Rattle.tree_plans.proofs.Order.{passes_at}

-- a test that no number of a block's pointers passes
pub none_passes_at : (p : ℕ → Bool) (k : ℕ) → k < pointer_count → list_any p (range_with_len 0 pointer_count) ≡ false → p k ≡ false
none_passes_at p k low none = false_from_ne_true (p k) (λ is. false≢true (sym none ∙ passes_at p 0 pointer_count k (omega arith) (omega (arith, low)) is))

-- a state that is as it was
pub unchanged_is : (state : RecordState) → not (is_unchanged state) ≡ false → state ≡ Unchanged
unchanged_is Unchanged e = refl
unchanged_is Dirty e = absurd (true≢false e)
unchanged_is Hole e = absurd (true≢false e)

-- the records of a strip that is not touched are unchanged, and none of one that is not dirty is written
pub untouched_record : (changes : ObjectChanges) (j k : ℕ) → k < pointer_count → is_strip_touched changes j ≡ false → state_at changes (record_of_strip j k) ≡ Unchanged
untouched_record changes j k low none = unchanged_is (state_at changes (record_of_strip j k)) (none_passes_at (λ i. not (is_unchanged (state_at changes (record_of_strip j i)))) k low none)

pub unwritten_record : (changes : ObjectChanges) (j k : ℕ) → k < pointer_count → is_strip_dirty changes j ≡ false → is_dirty (state_at changes (record_of_strip j k)) ≡ false
unwritten_record changes j k low none = none_passes_at (λ i. is_dirty (state_at changes (record_of_strip j i))) k low none

pub kept-dirty : (is_long : Bool) (changes : ObjectChanges) (j k : ℕ) → is_dirty (state_at changes (record_of_strip j k)) ≡ false → is_dirty (kept_state is_long changes j k) ≡ false
kept-dirty is_long changes j k none = by (may_have_blocks is_long changes.is_changed j)
  where
    by : (b : Bool) → is_dirty (if b then state_at changes (record_of_strip j k) else Hole) ≡ false
    by true = none
    by false = refl

-- and a record that is written is dirty by its object's changes
pub dirty_kept : (is_long : Bool) (changes : ObjectChanges) (j k : ℕ) → kept_state is_long changes j k ≡ Dirty → state_at changes (record_of_strip j k) ≡ Dirty
dirty_kept is_long changes j k is = by (may_have_blocks is_long changes.is_changed j) is
  where
    by : (b : Bool) → (if b then state_at changes (record_of_strip j k) else Hole) ≡ Dirty → state_at changes (record_of_strip j k) ≡ Dirty
    by true e = e
    by false e = absurd (let no : Hole ≡ Dirty = e in cc)

-- a strip that stays has two levels above it, and no record of it changes
pub stays-parts : (is_long touched : Bool) → not (is_long && not touched) ≡ false → (is_long ≡ true) × (touched ≡ false)
stays-parts true false e = (refl, refl)
stays-parts true true e = absurd (true≢false e)
stays-parts false touched e = absurd (true≢false e)

pub stays_unchanged : (is_long : Bool) (changes : ObjectChanges) (j k : ℕ) → k < pointer_count → is_strip_replaced is_long changes j ≡ false → kept_state is_long changes j k ≡ Unchanged
stays_unchanged is_long changes j k low e =
    let parts = stays-parts is_long (is_strip_touched changes j) e in
    ap (λ (b : Bool). kept_state b changes j k) parts.0 ∙ untouched_record changes j k low parts.1

-- a record of a strip without an indirect block has no pointer
pub told_none : (p : Pointer) (records : List Pointer) (k : ℕ) → p ≡ no_pointer → told_record (p, records) k ≡ no_pointer
told_none p records k e = ap (λ (q : Pointer). told_record (q, records) k) e

-- a place that has no block and is not written has become what it was
pub none_become : (s : Progress) (n j k : ℕ) (bytes : List ℕ) (state : RecordState) (was : Pointer) → is_dirty state ≡ false → was ≡ no_pointer → IsRecordPlanned s n j k bytes state was was
none_become s n j k bytes Unchanged was clean none = refl
none_become s n j k bytes Dirty was clean none = absurd (true≢false clean)
none_become s n j k bytes Hole was clean none = record { none = none; freed = λ there. absurd (there none) }

-- The records of a strip that the plan doesn't go over: each stays, or has no block and gets none.
module _ (object : ChangedObject) (read : IsMapRead object) (j : ℕ) (low : j < pointer_count) (unread : is_some (records_among object.old.now.strips.entries j) ≡ false) (clean : is_strip_dirty object.changes.now j ≡ false) where
  -- it has no indirect block, if it is looked at
  pub unmet_none : is_strip_replaced object.is_long object.changes.now j ≡ true → (old_in object).strip j ≡ no_pointer
  unmet_none replaced = elim (read.strips j low replaced) [ inl there ↦ absurd (false≢true (sym unread ∙ there)) | inr none ↦ none ]

  pub unmet_planned : (s : Progress) (n : ℕ) (bytes : List ℕ) → AreRecordsPlanned s n j bytes object.is_long object.changes.now ((old_in object).record_at j) pointer_count ((old_in object).record_at j)
  unmet_planned s n bytes k below = elim (cases_Bool (is_strip_replaced object.is_long object.changes.now j)) [
    | inr stays ↦ let state = stays_unchanged object.is_long object.changes.now j k below stays in rw state refl
    | inl replaced ↦
        none_become s n j k bytes (kept_state object.is_long object.changes.now j k) ((old_in object).record_at j k)
        (kept-dirty object.is_long object.changes.now j k (unwritten_record object.changes.now j k below clean))
        (told_none ((old_in object).strip j) _ k (unmet_none replaced))
  ]

-- what comes back of one indirect block more
pub made_below : (object : ChangedObject) (strips : List (ℕ × Vec Pointer)) (j address : ℕ) → IsOfMade object strips j address → IsOfMade object strips (j + 1) address
made_below object strips j address of = record { strip = of.strip; low = (let low = of.low in omega arith); made = of.made }

pub made_here : (object : ChangedObject) (strips : List (ℕ × Vec Pointer)) (j address : ℕ) → IsOfMadeAt object strips j address → IsOfMade object strips (j + 1) address
made_here object strips j address here = record { strip = j; low = omega arith; made = here }

-- the strips after one is put among them
module _ (R : ℕ → ℕ → Ordering) (ties : (a b : ℕ) → is_eq (R a b) ≡ (a == b)) where
  pub among_put : (old new : BTreeMap ℕ (Vec Pointer)) (j : ℕ) (v : Vec Pointer) → ((q : ℕ) → tree.get R new q ≡ cond (is_at (R j) q) (Some v) (tree.get R old q))
      → (q : ℕ) → records_among new.entries q ≡ cond (j == q) (Some v) (records_among old.entries q)
  among_put old new j v updates q = sym (among-get R ties new q) ∙ updates q ∙ ap (λ b. cond b (Some v) (tree.get R old q)) (ties j q) ∙ ap (λ o. cond (j == q) (Some v) o) (among-get R ties old q)

-- the strips that the plan goes over, after the next one
module _ (object : ChangedObject) (strip : ℕ) (old : List (ℕ × Vec Pointer)) (met : AreMet object strip old) where
  pub met_passed : is_some (records_among object.old.now.strips.entries strip) ≡ false → is_strip_dirty object.changes.now strip ≡ false → AreMet object (strip + 1) old
  met_passed unread clean = record {
    whole = met.whole;
    below = λ j there. let low = met.below j there in omega (arith, low);
    over = met.over;
    met = λ j low none. elim (cases_lt j strip) [
      | inl before ↦ met.met j before none
      | inr last ↦ let same : j ≡ strip = omega (arith, low, last) in rw same (unread, clean)
    ];
  }

  pub met_put : (new : List (ℕ × Vec Pointer)) (v : Vec Pointer) → (is_some (records_among object.old.now.strips.entries strip) || is_strip_dirty object.changes.now strip) ≡ true → vec_len v ≡ pointer_count → ((q : ℕ) → records_among new q ≡ cond (strip == q) (Some v) (records_among old q)) → AreMet object (strip + 1) new
  met_put new v over count put = record {
    whole = λ j. subst (λ (o : Option (Vec Pointer)). IfSome o (λ (x : Vec Pointer). vec_len x ≡ pointer_count)) (sym (put j)) (whole_at j (strip == j));
    below = λ j there. below_at j (strip == j) refl (sym (ap is_some (put j)) ∙ there);
    over = λ j there. over_at j (strip == j) refl (sym (ap is_some (put j)) ∙ there);
    met = λ j low none. met_at j low (strip == j) refl (sym (ap is_some (put j)) ∙ none);
  }
    where
      whole_at : (j : ℕ) (b : Bool) → IfSome (cond b (Some v) (records_among old j)) (λ (x : Vec Pointer). vec_len x ≡ pointer_count)
      whole_at j true = count
      whole_at j false = met.whole j

      below_at : (j : ℕ) (b : Bool) → (strip == j) ≡ b → is_some (cond b (Some v) (records_among old j)) ≡ true → j < strip + 1
      below_at j true e there = let same : strip ≡ j = eqb-true strip j e in omega (arith, same)
      below_at j false e there = let low = met.below j there in omega (arith, low)

      over_at : (j : ℕ) (b : Bool) → (strip == j) ≡ b → is_some (cond b (Some v) (records_among old j)) ≡ true → (is_some (records_among object.old.now.strips.entries j) || is_strip_dirty object.changes.now j) ≡ true
      over_at j true e there =
          subst (λ (i : ℕ). (is_some (records_among object.old.now.strips.entries i) || is_strip_dirty object.changes.now i) ≡ true) (eqb-true strip j e) over
      over_at j false e there = met.over j there

      met_at : (j : ℕ) → j < strip + 1 → (b : Bool) → (strip == j) ≡ b → is_some (cond b (Some v) (records_among old j)) ≡ false
          → (is_some (records_among object.old.now.strips.entries j) ≡ false) × (is_strip_dirty object.changes.now j ≡ false)
      met_at j low true e none = absurd (true≢false none)
      met_at j low false e none = met.met j (let other : strip ≢ j = λ same. false≢true (sym e ∙ eq-eqb strip j same) in omega (arith, low, other)) none

  -- the next strip is not among them yet
  pub next_absent : records_among old strip ≡ None
  next_absent = by (records_among old strip) refl
    where
      by : (o : Option (Vec Pointer)) → records_among old strip ≡ o → o ≡ None
      by None e = refl
      by (Some v) e = let low = met.below strip (ap is_some e) in absurd (omega (arith, low))
