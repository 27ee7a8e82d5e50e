-- The pointers of a tree before a plan and after it, by place.
use Rattle.std.specs.Prelude.{ℕ, ◌≡◌, ◌==◌, cond, List, [], map, slice_get, Option, Some}
use Rattle.std.specs.Global.{Vec}
use Rattle.std.specs.Option.{option_map_or}
use Rattle.std.specs.Map.{lookup}
use Rattle.base.specs.declared.pointer.Pointer.{Pointer}
use Rattle.base.specs.declared.names.ObjectId.{ObjectId}
use Rattle.base.specs.formats.Fields.{no_pointer}
use Rattle.base.specs.tree.Places.{Place}
use Rattle.base.specs.tree.Syncs.{pointer_numbers}
use Rattle.tree_blocks.specs.declared.tree.ObjectEntry.{ObjectEntry}
use Rattle.tree_blocks.specs.TreeObjects.{lengths_of}
use Rattle.tree_blocks.specs.Pointers.{ObjectPointers, object_pointers, pointer_of_list, pointers_by, pointers_of_entry, strip_in, told_record}
use Rattle.tree_blocks.specs.declared.object_map.ObjectMap.{ObjectMap}
use Rattle.tree_blocks.specs.ReadPointers.{records_among}
use Rattle.tree_plans.specs.declared.planner.TreePlan.{TreePlan}
use Rattle.tree_plans.specs.declared.plan_source.PlanSource.{PlanSource}

-- the value that entries by object number have at a number
abbrev pub entry_of : {X : Type 0} → List (ObjectId × X) → ℕ → Option X
entry_of entries n = lookup (λ (id : ObjectId). n == id.0) entries

-- entries after one is put at its number
abbrev pub IsPut : {X : Type 0} → List (ObjectId × X) → ObjectId → X → List (ObjectId × X) → Type 0
IsPut old id x new = (n : ℕ) → entry_of new n ≡ cond (id.0 == n) (Some x) (entry_of old n)

-- a strip by the pointers to all indirect blocks of its object: that to its own, and those in it, which stand among
-- those of some strips or are as they were told before
abbrev pub strip_with : List Pointer → List (ℕ × Vec Pointer) → List (ℕ × (Pointer × List Pointer)) → ℕ → Pointer × List Pointer
strip_with indirects strips told j = (pointer_of_list indirects j, option_map_or (λ (v : Vec Pointer). v.items) (records_among strips j) (strip_in told j).1)

-- and all strips of the object
unfoldable pub strips_with : List Pointer → List (ℕ × Vec Pointer) → List (ℕ × (Pointer × List Pointer)) → List (ℕ × (Pointer × List Pointer))
strips_with indirects strips told = map (λ j. (j, strip_with indirects strips told j)) pointer_numbers

-- what an entry tells of the strips of its object: the pointers that the tree has to their indirect blocks, and in
-- these
unfoldable pub entry_strips : ObjectEntry → List (ℕ × (Pointer × List Pointer))
entry_strips e = map (λ j. (j, ((pointers_of_entry e).strip j, map (λ k. (pointers_of_entry e).record_at j k) pointer_numbers))) pointer_numbers

-- what is told of the strips of object n
abbrev pub told_strips : List ObjectEntry → ℕ → List (ℕ × (Pointer × List Pointer))
told_strips entries n = option_map_or entry_strips (slice_get entries n) []

-- the pointer in the entry of object n: to its top, or to its one indirect block
abbrev pub entry_pointer_of : List ObjectEntry → ℕ → Pointer
entry_pointer_of entries n = option_map_or (λ (e : ObjectEntry). e.pointer) (slice_get entries n) no_pointer

-- the pointers of an object by its map, where those that were not read are as they were told
abbrev pub pointers_in : List (ℕ × (Pointer × List Pointer)) → ObjectMap → ObjectPointers
pointers_in told m = record {
  top = m.top;
  strip = λ j. (strip_with m.indirects.items m.strips.entries told j).0;
  record_at = λ j k. told_record (strip_with m.indirects.items m.strips.entries told j) k;
}

-- the pointers of an object that is planned, and those that the tree has of any other
abbrev pub planned_map : (ℕ → ObjectPointers) → List (ObjectId × ObjectEntry) → ℕ → ObjectPointers
planned_map maps planned n = option_map_or pointers_of_entry (entry_of planned n) (maps n)

-- and so the pointer in its entry
abbrev pub planned_pointer : (ℕ → Pointer) → List (ObjectId × ObjectEntry) → ℕ → Pointer
planned_pointer below planned n = option_map_or (λ (e : ObjectEntry). e.pointer) (entry_of planned n) (below n)

-- a tree before a plan: its root, its directories, the pointers of its objects, those in their entries, and their
-- lengths
pub record OldTree : Type 0 where
  pub root : Pointer
  pub directories : List Pointer
  pub maps : ℕ → ObjectPointers
  pub below : ℕ → Pointer
  pub lengths : ℕ → Option ℕ

abbrev pub old_pointers : OldTree → Place → Pointer
old_pointers t = pointers_by t.root t.directories t.maps

-- the pointers of an object before a plan: those that were read for it, and those that the tree has if none were read
abbrev pub maps_before : PlanSource → ℕ → ObjectPointers
maps_before source n = option_map_or (pointers_in (told_strips source.tree.now.entries.items n)) (entry_of source.old_maps.now.entries n) (object_pointers source.tree.now.entries.items n)

abbrev pub old_tree : PlanSource → OldTree
old_tree source = record {
  root = source.tree.now.root;
  directories = source.tree.now.directories.items;
  maps = maps_before source;
  below = entry_pointer_of source.tree.now.entries.items;
  lengths = lengths_of source.tree.now;
}

abbrev pub pointers_before : PlanSource → Place → Pointer
pointers_before source = old_pointers (old_tree source)

-- the length of each object of a tree after a plan
abbrev pub planned_lengths : PlanSource → TreePlan → ℕ → Option ℕ
planned_lengths source plan n = option_map_or (λ (e : ObjectEntry). e.length) (entry_of plan.entries.entries n) (lengths_of source.tree.now n)

-- the pointers of a tree after a plan
abbrev pub planned_pointers : PlanSource → TreePlan → Place → Pointer
planned_pointers source plan = pointers_by plan.root plan.directories.items (planned_map (maps_before source) plan.entries.entries)
