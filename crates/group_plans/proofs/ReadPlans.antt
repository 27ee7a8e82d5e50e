-- What a plan makes of a tree whose old maps were read, told of the pointers that the tree keeps.
use Rattle.std.proofs.Common.{◌≡◌, ℕ, ◌<◌, List, Option, false, length, map, refl, ap, subst, sym, ◌∙◌}
use Rattle.std.specs.Prelude.{IfErr, IfOk, Result, Ok, Err, is_some, if◌then◌else◌}
use Rattle.std.specs.BTreeMap.{BTreeMap}
use Rattle.std.specs.Ordering.{nat_cmp}
use Rattle.std.specs.FinMap.{FinMap}
use Rattle.std.specs.FinSet.{FinSet}
use Rattle.std.proofs.Math.Logic.{∥∥₁_map}
use Rattle.base.specs.common.Rising.{rising}
use Rattle.base.specs.declared.error.PoolError.{PoolError}
use Rattle.base.specs.declared.names.ObjectId.{ObjectId}
use Rattle.base.specs.declared.pointer.Pointer.{Pointer}
use Rattle.base.specs.formats.Blocks.{Frame}
use Rattle.base.specs.formats.Geometry.{block_count}
use Rattle.base.specs.kept.Stored.{AreUsed}
use Rattle.base.specs.kept.PlacedTrees.{ArePlaced}
use Rattle.base.specs.tree.Places.{Place, IsPlace}
use Rattle.base.specs.kept.PlannedTrees.{AreFreed, IsTreePlan, NewBlock}
use Rattle.base.specs.tree.Syncs.{GroupChanges, written_by}
use Rattle.tree_blocks.specs.Lengths.{length_in}
use Rattle.tree_blocks.specs.Pointers.{pointers_of}
use Rattle.tree_blocks.specs.Sources.{object_length}
use Rattle.tree_plans.specs.declared.changes.ObjectChanges.{ObjectChanges}
use Rattle.tree_plans.specs.declared.plan_source.PlanSource.{PlanSource}
use Rattle.tree_plans.specs.declared.planner.TreePlan.{TreePlan}
use Rattle.tree_plans.specs.Changes.{AreBornBefore, AreChanges, AreTreePointers, IsCoveredBy, changes_of_group, written_frame}
use Rattle.tree_plans.specs.Plans.{new_block}
use Rattle.tree_plans.specs.Pointers.{entry_of, entry_pointer_of, planned_pointers, pointers_before}
use Rattle.tree_plans.specs.TreePlans.{GivesBack, GivesTree, HasEntries, HasLengths, TakesBlocks, TellsFull}
use Rattle.tree_plans.specs.Marks.{AreChangesOf, pending_ops}
use Rattle.records.specs.declared.record.Record.{Record}
use Rattle.tree_blocks.specs.declared.tree.Tree.{Tree}
use Rattle.group_plans.specs.Prepared.{IsPrepareRefusal}
use Rattle.group_plans.specs.GroupPlans.{HoldsGroupObjects, IsRefusedShort, IsTreeShort, MakesGroupTree, plan_pointers}
use Rattle.group_plans.specs.OldMaps.{AreMapsOf}
use Rattle.group_plans.specs.ReadPlans.{HoldsPlanned, IsShortFor, IsShortFrom, PlansReadTree}
use Rattle.group_plans.proofs.PlannedBlocks.{addresses_are}
use Rattle.group_plans.proofs.PlannedPointers.{before_placed, same_after, same_lengths}
use Rattle.group_plans.proofs.PreparedPlans.{no_space_prepare, range_as, same_group}
use Rattle.group_plans.proofs.SamePlans.{apart_as, born_as, covered_as, freed_as, plan_as, tree_as, written_as}

-- what two facts of an answer give together, and five
pub IfOk_both : {A : Type 0} {P Q R : A → Type 0} (r : Result A PoolError) → ((a : A) → P a → Q a → R a) → IfOk r P → IfOk r Q → IfOk r R
IfOk_both (Ok a) f h k = f a h k
IfOk_both (Err e) f h k = tt

pub IfOk_five : {A : Type 0} {P Q R S T U : A → Type 0} (r : Result A PoolError) → ((a : A) → P a → Q a → R a → S a → T a → U a) → IfOk r P → IfOk r Q → IfOk r R → IfOk r S → IfOk r T → IfOk r U
IfOk_five (Ok a) f p q r s t = f a p q r s t
IfOk_five (Err e) f p q r s t = tt

-- a refusal of what is read is not for want of blocks
pub not_short : (objects : List (ObjectId × ObjectChanges)) (after : FinMap nat_cmp (List ℕ)) (free : FinSet nat_cmp) (r : Result TreePlan PoolError) (x e : PoolError) → r ≡ Err x → x ≡ e → IsPrepareRefusal e
    → IfErr r (IsShortFor objects after free)
not_short objects after free r x e is same cause =
    subst (λ (r : Result TreePlan PoolError). IfErr r (IsShortFor objects after free)) (sym is) (λ space. absurd (no_space_prepare e cause (sym same ∙ space)))

pub not_short_from : (old : Place → Pointer) (objects : List (ObjectId × ObjectChanges)) (after : FinMap nat_cmp (List ℕ)) (free : FinSet nat_cmp) (r : Result TreePlan PoolError) (x e : PoolError) → r ≡ Err x → x ≡ e
    → IsPrepareRefusal e → IfErr r (IsShortFrom old objects after free)
not_short_from old objects after free r x e is same cause =
    subst (λ (r : Result TreePlan PoolError). IfErr r (IsShortFrom old objects after free)) (sym is) (λ space. absurd (no_space_prepare e cause (sym same ∙ space)))

-- The same of a group, whose changes these are.
module _ (frame : Frame) (records : List Record) (tree : Tree) (objects : List (ObjectId × ObjectChanges)) (changes : AreChangesOf (pending_ops frame.group records) tree.entries.items objects)
    (after : FinMap nat_cmp (List ℕ)) where
  pub group_tree : (old : Place → Pointer) (p : TreePlan) → PlansReadTree frame old tree objects after p → MakesGroupTree frame old tree records after p
  group_tree old p made = record {
    placed = made.placed;
    places = record { objects = objects; changes = changes; order = made.order; used = made.used; freed = made.freed; once = made.once; none = made.none };
    whole = made.whole;
    lengths = record { objects = objects; changes = changes; each = made.lengths };
    upper = made.upper;
    read = made.read;
  }

  pub group_held : (p : TreePlan) → HoldsPlanned frame tree objects after p → HoldsGroupObjects frame tree records after p
  group_held p h = record { made = group_tree (pointers_of tree) p h.made; held = record { objects = objects; changes = changes; planned = h.planned } }

  pub group_short : (free : FinSet nat_cmp) (e : PoolError) → IsShortFor objects after free e → IsRefusedShort frame.group tree records after free e
  group_short free e short space = let of = short space in (of.0, record { objects = objects; changes = changes; fewer = of.1 })

  pub tree_short : (free : FinSet nat_cmp) (e : PoolError) → IsShortFrom (pointers_of tree) objects after free e → IsTreeShort frame.group tree records after free e
  tree_short free e short space = record { objects = objects; changes = changes; fewer = short space }

module _ (source : PlanSource) (changes : BTreeMap ObjectId ObjectChanges)
    (none : (n : ℕ) → is_some (entry_of changes.entries n) ≡ false → is_some (entry_of source.old_maps.now.entries n) ≡ false) (below : FinMap nat_cmp (List ℕ))
    (of : AreMapsOf (block_count source.geometry) source.tree.now below source.old_maps.now.entries) (placed : ∥ ArePlaced (block_count source.geometry) (pointers_of source.tree.now) ∥₁) (p : TreePlan) where
  abbrev blocks : ℕ
  blocks = block_count source.geometry

  abbrev objects : List (ObjectId × ObjectChanges)
  objects = changes.entries

  abbrev told : Place → Pointer
  told = pointers_of source.tree.now

  abbrev old : Place → Pointer
  old = pointers_before source

  abbrev new : Place → Pointer
  new = plan_pointers source.tree.now p

  abbrev bs : List NewBlock
  bs = map new_block p.blocks.items

  abbrev frame : Frame
  frame = written_frame source.guid source.geometry source.group.0

  -- what is told of the pointers of the plan is told of those that the tree keeps
  kept_as : (after : FinMap nat_cmp (List ℕ)) → HasEntries after changes p → planned_pointers source p ≡ new
  kept_as after entries = λ k place. sym (same_after source objects none blocks below of p entries.all place) k

  module _ (after wanted : FinMap nat_cmp (List ℕ)) (lengths_are : (n : ℕ) → object_length after n ≡ object_length wanted n)
      (taken : TakesBlocks source after changes p) (made : GivesTree source after changes p) (lengths : HasLengths source after changes p) (entries : HasEntries after changes p) (back : GivesBack source p) where
    same : changes_of_group objects old after ≡ changes_of_group objects old wanted
    same = same_group objects old after wanted lengths_are

    kept : planned_pointers source p ≡ new
    kept = kept_as after entries

    pub plans_tree : PlansReadTree frame old source.tree.now objects wanted p
    plans_tree = record {
      placed = ∥∥₁_map {A = ArePlaced blocks told} {B = ArePlaced blocks new} placed
          (λ at. subst (λ (f : Place → Pointer). ArePlaced blocks f) kept (made.placed (before_placed source objects none blocks below of at)));
      order = λ within.
          subst (λ (f : Place → Pointer). map (λ (b : NewBlock). b.address) bs ≡ map (λ (place : Place). (f place).address) (written_by (changes_of_group objects old wanted))) kept
          (addresses_are p.blocks.items ∙ taken.order (range_as objects after wanted lengths_are within) ∙ ap (λ (x : GroupChanges). map (λ (place : Place). (planned_pointers source p place).address) (written_by x)) same);
      used = subst (λ (f : Place → Pointer). AreUsed bs f) kept made.used;
      freed = subst (λ (f : Place → Pointer). AreBornBefore source.group.0 old → AreFreed old f p.freed.items) kept back.freed;
      once = back.once;
      none = λ no. ap (map new_block) (taken.none no);
      whole = taken.whole;
      lengths = λ n low. same_lengths source p n ∙ lengths n low
          ∙ ap (λ (o : Option ℕ). if is_some (entry_of objects n) then o else length_in source.tree.now.entries.items n) (lengths_are n);
      upper = record { root = refl; directories = λ d. refl; kept_root = made.kept_root; entries = λ n e at. (entries.each n e at).low };
      read = record {
        held = after;
        as_long = lengths_are;
        planned = λ before covered changes_are whole. subst (λ (f : Place → Pointer). IsTreePlan bs frame old f before after) kept (made.planned before covered changes_are whole);
      };
    }

  -- where the old pointers are the tree's, its blocks hold the objects
  pub holds_planned : (wanted : FinMap nat_cmp (List ℕ)) → ((place : Place) → IsPlace place → old place ≡ told place)
      → TakesBlocks source wanted changes p → GivesTree source wanted changes p → HasLengths source wanted changes p → HasEntries wanted changes p → GivesBack source p
      → HoldsPlanned frame source.tree.now objects wanted p
  holds_planned wanted is taken made lengths entries back =
      let read : PlansReadTree frame old source.tree.now objects wanted p = plans_tree wanted wanted (λ n. refl) taken made lengths entries back in
      let planned : (before : FinMap nat_cmp (List ℕ)) → IsCoveredBy objects told before wanted → AreChanges objects wanted → AreTreePointers objects (entry_pointer_of source.tree.now.entries.items) told wanted
      → IsTreePlan bs frame told new before wanted = λ before covered changes_are whole.
      plan_as old told is objects bs frame new before wanted
      (subst (λ (f : Place → Pointer). IsTreePlan bs frame old f before wanted) (kept_as wanted entries)
      (made.planned before (covered_as old told is objects before wanted covered) changes_are (tree_as old told is objects (entry_pointer_of source.tree.now.entries.items) wanted whole))) in
      record {
        made = record {
          placed = read.placed;
          order = λ within. read.order within ∙ ap (λ (places : List Place). map (λ (place : Place). (new place).address) places) (written_as old told is objects wanted);
          used = read.used;
          freed = λ born. freed_as old told is objects new p.freed.items (read.freed (born_as old told is objects source.group.0 born));
          once = λ apart. read.once (apart_as old told is objects apart);
          none = read.none;
          whole = read.whole;
          lengths = read.lengths;
          upper = record { root = refl; directories = λ d. refl; kept_root = read.upper.kept_root; entries = read.upper.entries };
          read = record { held = wanted; as_long = λ n. refl; planned = planned };
        };
        planned = planned;
      }

-- where the plan is short of blocks, so it is for the changes of all objects, of the pointers that were read, and of
-- the tree's if these are they
module _ (source : PlanSource) (objects : List (ObjectId × ObjectChanges)) (after wanted : FinMap nat_cmp (List ℕ)) (lengths_are : (n : ℕ) → object_length after n ≡ object_length wanted n) (e : PoolError)
    (full : TellsFull source after objects e) where
  pub short_of : IsShortFrom (pointers_before source) objects wanted source.free.now.free e
  short_of no_space within =
      subst (λ (x : GroupChanges). length (rising source.free.now.free) < length (written_by x)) (same_group objects (pointers_before source) after wanted lengths_are)
      (full.fewer no_space (range_as objects after wanted lengths_are within))

  pub short_of_tree : ((place : Place) → IsPlace place → pointers_before source place ≡ pointers_of source.tree.now place) → IsShortFrom (pointers_of source.tree.now) objects wanted source.free.now.free e
  short_of_tree is no_space within =
      subst (λ (places : List Place). length (rising source.free.now.free) < length places) (written_as (pointers_before source) (pointers_of source.tree.now) is objects wanted) (short_of no_space within)
