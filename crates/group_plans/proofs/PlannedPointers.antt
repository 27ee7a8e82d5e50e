-- The pointers and the lengths of a tree before and after a plan, as the plan and as the pool tell them.
use Rattle.std.proofs.Common.{◌≡◌, ℕ, zero, suc, ◌<◌, inl, inr, Bool, false, cond, List, [], ◌∷◌, length, is_some, refl, ap, subst, sym, ◌∙◌, arith}
use Rattle.std.specs.Prelude.{IfSome, Option, Some, None, slice_get}
use Rattle.std.specs.Global.{Vec}
use Rattle.std.specs.Option.{option_map_or}
use Rattle.std.specs.Ordering.{nat_cmp, is_eq}
use Rattle.std.specs.FinMap.{FinMap}
use Rattle.std.specs.Map.{lookup}
use Rattle.std.proofs.lemmas.Bool.{true≢false}
use Rattle.base.specs.declared.names.ObjectId.{ObjectId}
use Rattle.base.specs.declared.pointer.Pointer.{Pointer}
use Rattle.base.specs.formats.Limits.{object_count, pointer_count}
use Rattle.base.specs.kept.PlacedTrees.{ArePlaced, IsPlaced}
use Rattle.base.specs.tree.Places.{Place, IsPlace, object_of_indirect, strip_number, strip_of}
use Rattle.base.specs.tree.Places.Place.{Root, Directory, Top, Indirect, Data}
use Rattle.base.proofs.tree.Strips.{number-back, number-object, number-strip}
use Rattle.tree_blocks.specs.declared.tree.ObjectEntry.{ObjectEntry}
use Rattle.tree_blocks.specs.declared.tree.Tree.{Tree}
use Rattle.tree_blocks.specs.TreeObjects.{lengths_of}
use Rattle.tree_blocks.specs.Pointers.{ObjectPointers, entry_among, id_cmp, no_pointers, object_pointers, pointer_of_list, pointers_of, pointers_of_entry, strip_in, told_record}
use Rattle.tree_plans.specs.declared.changes.ObjectChanges.{ObjectChanges}
use Rattle.tree_blocks.specs.declared.object_map.ObjectMap.{ObjectMap}
use Rattle.tree_plans.specs.declared.plan_source.PlanSource.{PlanSource}
use Rattle.tree_plans.specs.declared.planner.TreePlan.{TreePlan}
use Rattle.tree_plans.specs.Pointers.{entry_of, entry_strips, maps_before, planned_lengths, planned_map, planned_pointers, pointers_before, pointers_in, told_strips}
use Rattle.tree_blocks.specs.ReadPointers.{records_among}
use Rattle.tree_plans.proofs.Levels.{entry-record}
use Rattle.group_plans.specs.GroupPlans.{plan_pointers}
use Rattle.group_plans.specs.OldMaps.{AreMapsOf, AreMapsOfObjects, AreRecordsAt, AreMapRecords, IsStripOf, size_in}
use Rattle.tree_blocks.specs.SyncedTrees.{lengths_after}
use Rattle.group_plans.proofs.RecordsAtHand.{same_test}
use Rattle.group_plans.proofs.ToldStrips.{as_told, told_placed}

-- what entries have at a number, found by the order of numbers or by their equality
same_entry : {X : Type 0} (entries : List (ObjectId × X)) (n : ℕ) → lookup (λ (id : ObjectId). is_eq (id_cmp (record { 0 = n }) id)) entries ≡ entry_of entries n
same_entry [] n = refl
same_entry {X} (e ∷ es) n =
    ap (λ (rest : Option X). cond (is_eq (nat_cmp n e.0.0)) (Some e.1) rest) (same_entry es n) ∙ ap (λ (b : Bool). cond b (Some e.1) (entry_of es n)) (same_test n e.0.0)

-- the pointers to records of a strip by a map of its object: as they were read, or as the tree has them
module _ (tree : Tree) (blocks : ℕ) (pointers : Place → Pointer) (n j k : ℕ) (low : n < object_count) (j_low : j < pointer_count) (k_low : k < pointer_count) where
  abbrev own : ObjectPointers
  own = object_pointers tree.entries.items n

  abbrev told_list : List Pointer
  told_list = (strip_in (told_strips tree.entries.items n) j).1

  abbrev list_of : Option (Vec Pointer) → List Pointer
  list_of o = option_map_or (λ (v : Vec Pointer). v.items) o told_list

  entry_there : (e : ObjectEntry) × (slice_get tree.entries.items n ≡ Some e)
  entry_there = there_at tree.entries.items n (omega (arith, low, tree.entries.ok.0, tree.all_objects))
    where
      there_at : (entries : List ObjectEntry) (i : ℕ) → i < length entries → (e : ObjectEntry) × (slice_get entries i ≡ Some e)
      there_at [] i below = absurd (omega arith)
      there_at (e ∷ es) zero below = (e, refl)
      there_at (e ∷ es) (suc i) below = there_at es i (omega (arith, below))

  own-entry : own ≡ pointers_of_entry entry_there.0
  own-entry = ap (λ (o : Option ObjectEntry). option_map_or pointers_of_entry o no_pointers) entry_there.1

  told-own : pointer_of_list told_list k ≡ own.record_at j k
  told-own =
      ap (λ (o : Option ObjectEntry). pointer_of_list (strip_in (option_map_or entry_strips o []) j).1 k) entry_there.1
      ∙ entry-record entry_there.0 j k j_low k_low ∙ sym (ap (λ (o : ObjectPointers). o.record_at j k) own-entry)

  pub record-told : (indirect : Pointer) (o : Option (Vec Pointer)) → indirect ≡ own.strip j → IfSome o (λ (v : Vec Pointer). pointer_of_list v.items k ≡ own.record_at j k)
      → told_record (indirect, list_of o) k ≡ own.record_at j k
  record-told indirect o is read =
      as_told entry_there.0 j k indirect (list_of o) (is ∙ ap (λ (p : ObjectPointers). p.strip j) own-entry) (by o read ∙ ap (λ (p : ObjectPointers). p.record_at j k) own-entry)
      ∙ sym (ap (λ (p : ObjectPointers). p.record_at j k) own-entry)
    where
      by : (o : Option (Vec Pointer)) → IfSome o (λ (v : Vec Pointer). pointer_of_list v.items k ≡ own.record_at j k) → pointer_of_list (list_of o) k ≡ own.record_at j k
      by None read = told-own
      by (Some v) read = read

  pub record-placed : (indirect : Pointer) (o : Option (Vec Pointer)) → IfSome o (λ (v : Vec Pointer). IsPlaced blocks (pointer_of_list v.items k)) → IsPlaced blocks (own.record_at j k)
      → IsPlaced blocks (told_record (indirect, list_of o) k)
  record-placed indirect o read placed = told_placed blocks indirect (list_of o) k (by o read)
    where
      by : (o : Option (Vec Pointer)) → IfSome o (λ (v : Vec Pointer). IsPlaced blocks (pointer_of_list v.items k)) → IsPlaced blocks (pointer_of_list (list_of o) k)
      by None read = subst (IsPlaced blocks) (sym told-own) placed
      by (Some v) read = read

module _ (source : PlanSource) (objects : List (ObjectId × ObjectChanges))
    (none : (n : ℕ) → is_some (entry_of objects n) ≡ false → is_some (entry_of source.old_maps.now.entries n) ≡ false)
    (blocks : ℕ) (below : FinMap nat_cmp (List ℕ)) (of : AreMapsOf blocks source.tree.now below source.old_maps.now.entries) where
  abbrev read : List (ObjectId × ObjectMap)
  read = source.old_maps.now.entries

  abbrev tree : Tree
  tree = source.tree.now

  abbrev told : Place → Pointer
  told = pointers_of tree

  abbrev was : ℕ → ObjectPointers
  was = object_pointers tree.entries.items

  abbrev map_or : ℕ → Option ObjectMap → ObjectPointers
  map_or n o = option_map_or (pointers_in (told_strips tree.entries.items n)) o (was n)

  -- the pointers before are the tree's, if those that were read are
  pub same_before : AreMapsOfObjects told read → (place : Place) → IsPlace place → pointers_before source place ≡ told place
  same_before exact Root is = refl
  same_before exact (Directory d) is = refl
  same_before exact (Top n) is = by (entry_of read n) refl
    where
      by : (o : Option ObjectMap) → entry_of read n ≡ o → (map_or n o).top ≡ (was n).top
      by None at = refl
      by (Some m) at = (of n m at).top
  same_before exact (Indirect m) is = by (entry_of read (object_of_indirect m)) refl
    where
      by : (o : Option ObjectMap) → entry_of read (object_of_indirect m) ≡ o → (map_or (object_of_indirect m) o).strip (strip_of m) ≡ told (Indirect m)
      by None at = refl
      by (Some map) at = (exact (object_of_indirect m) map at).strips (strip_of m) (number-strip m is) ∙ ap (λ (i : ℕ). told (Indirect i)) (number-back m)
  same_before exact (Data m k) is = by (entry_of read (object_of_indirect m)) refl
    where
      by : (o : Option ObjectMap) → entry_of read (object_of_indirect m) ≡ o → (map_or (object_of_indirect m) o).record_at (strip_of m) k ≡ told (Data m k)
      by None at = refl
      by (Some map) at =
          let of_map = exact (object_of_indirect m) map at in
          let j_low = number-strip m is.0 in
          record-told tree blocks told (object_of_indirect m) (strip_of m) k (number-object m) j_low is.1 (pointer_of_list map.indirects.items (strip_of m)) (records_among map.strips.entries (strip_of m))
          (of_map.strips (strip_of m) j_low ∙ ap (λ (i : ℕ). told (Indirect i)) (number-back m))
          (at_record (records_among map.strips.entries (strip_of m)) (of_map.records (strip_of m) j_low))
        where
          at_record : (o : Option (Vec Pointer)) → AreRecordsAt told (strip_number (object_of_indirect m) (strip_of m)) o
              → IfSome o (λ (v : Vec Pointer). pointer_of_list v.items k ≡ told (Data m k))
          at_record None are = tt
          at_record (Some v) are = are k is.1 ∙ ap (λ (i : ℕ). told (Data i k)) (number-back m)

  -- and they are placed, if the tree's are
  pub before_placed : ArePlaced blocks told → ArePlaced blocks (pointers_before source)
  before_placed placed Root is = placed Root is
  before_placed placed (Directory d) is = placed (Directory d) is
  before_placed placed (Top n) is = by (entry_of read n) refl
    where
      by : (o : Option ObjectMap) → entry_of read n ≡ o → IsPlaced blocks (map_or n o).top
      by None at = placed (Top n) is
      by (Some m) at = subst (IsPlaced blocks) (sym (of n m at).top) (placed (Top n) is)
  before_placed placed (Indirect m) is = by (entry_of read (object_of_indirect m)) refl
    where
      at_strip : (p : Pointer) → IsStripOf blocks tree (object_of_indirect m) (strip_of m) p → IsPlaced blocks p
      at_strip p (inl same) = subst (IsPlaced blocks) (sym same) (placed (Indirect m) is)
      at_strip p (inr there) = there

      by : (o : Option ObjectMap) → entry_of read (object_of_indirect m) ≡ o → IsPlaced blocks ((map_or (object_of_indirect m) o).strip (strip_of m))
      by None at = placed (Indirect m) is
      by (Some map) at = at_strip (pointer_of_list map.indirects.items (strip_of m)) ((of (object_of_indirect m) map at).strips (strip_of m) (number-strip m is))
  before_placed placed (Data m k) is = by (entry_of read (object_of_indirect m)) refl
    where
      by : (o : Option ObjectMap) → entry_of read (object_of_indirect m) ≡ o → IsPlaced blocks ((map_or (object_of_indirect m) o).record_at (strip_of m) k)
      by None at = placed (Data m k) is
      by (Some map) at =
          let j_low = number-strip m is.0 in
          record-placed tree blocks told (object_of_indirect m) (strip_of m) k (number-object m) j_low is.1 (pointer_of_list map.indirects.items (strip_of m)) (records_among map.strips.entries (strip_of m))
          (at_record (records_among map.strips.entries (strip_of m)) ((of (object_of_indirect m) map at).records (strip_of m) j_low)) (placed (Data m k) is)
        where
          at_record : (o : Option (Vec Pointer)) → IfSome o (λ (v : Vec Pointer). AreMapRecords blocks (size_in below (object_of_indirect m)) (strip_number (object_of_indirect m) (strip_of m)) v.items)
              → IfSome o (λ (v : Vec Pointer). IsPlaced blocks (pointer_of_list v.items k))
          at_record None are = tt
          at_record (Some v) are = are.placed k is.1

  -- the pointers after are those of the plan
  module _ (plan : TreePlan) (all : (n : ℕ) → n < object_count → entry_of plan.entries.entries n ≡ None → entry_of objects n ≡ None) where
    abbrev planned : List (ObjectId × ObjectEntry)
    planned = plan.entries.entries

    -- an object that has no entry in the plan was not read
    not_read : (n : ℕ) → entry_of planned n ≡ None → entry_of read n ≡ None
    not_read n out = by (entry_of read n) refl
      where
        by : (o : Option ObjectMap) → entry_of read n ≡ o → o ≡ None
        by None at = refl
        by (Some m) at =
            let untouched : entry_of objects n ≡ None = all n (of n m at).low out in
            absurd (true≢false (sym (ap is_some at) ∙ none n (ap is_some untouched)))

    same_map : (n : ℕ) → option_map_or pointers_of_entry (entry_among plan.entries n) (was n) ≡ planned_map (maps_before source) planned n
    same_map n = ap (λ (o : Option ObjectEntry). option_map_or pointers_of_entry o (was n)) (same_entry planned n) ∙ by (entry_of planned n) refl
      where
        by : (o : Option ObjectEntry) → entry_of planned n ≡ o → option_map_or pointers_of_entry o (was n) ≡ option_map_or pointers_of_entry o (maps_before source n)
        by (Some e) at = refl
        by None at = sym (ap (map_or n) (not_read n at))

    -- what is told of an object's new pointers, or of its old ones
    told_of : (f : ObjectPointers → Pointer) (o : Option ObjectEntry) (old : ObjectPointers) → option_map_or (λ (e : ObjectEntry). f (pointers_of_entry e)) o (f old) ≡ f (option_map_or pointers_of_entry o old)
    told_of f None old = refl
    told_of f (Some e) old = refl

    new_as : (n : ℕ) (f : ObjectPointers → Pointer) → option_map_or (λ (e : ObjectEntry). f (pointers_of_entry e)) (entry_among plan.entries n) (f (was n)) ≡ f (planned_map (maps_before source) planned n)
    new_as n f = told_of f (entry_among plan.entries n) (was n) ∙ ap f (same_map n)

    pub same_after : (place : Place) → plan_pointers tree plan place ≡ planned_pointers source plan place
    same_after Root = refl
    same_after (Directory d) = refl
    same_after (Top n) = new_as n (λ o. o.top)
    same_after (Indirect m) = new_as (object_of_indirect m) (λ o. o.strip (strip_of m))
    same_after (Data m k) = new_as (object_of_indirect m) (λ o. o.record_at (strip_of m) k)

-- the lengths of the tree of a plan
pub same_lengths : (source : PlanSource) (plan : TreePlan) (n : ℕ) → lengths_after plan.entries source.tree.now n ≡ planned_lengths source plan n
same_lengths source plan n = ap (λ (o : Option ObjectEntry). option_map_or (λ (e : ObjectEntry). e.length) o (lengths_of source.tree.now n)) (same_entry plan.entries.entries n)
