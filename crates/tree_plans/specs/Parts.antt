-- What each part of a walk has done, from the plan before it (old) to the plan after it (new).
use Rattle.std.specs.Prelude.{ℕ, ◌≡◌, ◌<◌, ◌⊎◌, ◌==◌, ◌+◌, ◌++◌, ◌||◌, ◌∷◌, [], Bool, true, false, nat_eq, List, map, slice_index_or, Option, Some, None, IfSome, is_some, unwrap_or, vec_len, if◌then◌else◌}
use Rattle.std.specs.Global.{Vec}
use Rattle.std.specs.BTreeMap.{BTreeMap}
use Rattle.std.specs.List.{IsDistinct}
use Rattle.std.specs.Ordering.{nat_cmp}
use Rattle.std.specs.FinMap as finite
use Rattle.std.specs.FinMap.{FinMap}
use Rattle.base.specs.declared.error.PoolError.{PoolError}
use Rattle.base.specs.declared.error.PoolError.TheVariants as error
use Rattle.base.specs.declared.pointer.Pointer.{Pointer}
use Rattle.base.specs.declared.names.ObjectId.{ObjectId}
use Rattle.base.specs.formats.Limits.{object_count, pointer_count}
use Rattle.base.specs.formats.Fields.{no_pointer}
use Rattle.base.specs.kept.Stored.{AreUsed}
use Rattle.base.specs.declared.record_state.RecordState.{RecordState}
use Rattle.base.specs.kept.PlannedTrees.{NewBlock}
use Rattle.base.specs.tree.Syncs.{GroupChanges, is_dirty}
use Rattle.checked_blocks.specs.Sealing.{padded}
use Rattle.tree_blocks.specs.declared.tree.ObjectEntry.{ObjectEntry}
use Rattle.tree_blocks.specs.Pointers.{ObjectPointers, pointer_of_list, pointers_by, pointers_of_entry}
use Rattle.space.specs.FreeSets.{FreeSpace}
use Rattle.tree_blocks.specs.declared.place.BlockPlace.{BlockPlace}
use Rattle.tree_blocks.specs.declared.place.RecordPlace.{RecordPlace}
use Rattle.tree_plans.specs.declared.changed_object.ChangedObject.{ChangedObject}
use Rattle.tree_plans.specs.declared.changes.ObjectChanges.{ObjectChanges}
use Rattle.tree_blocks.specs.declared.object_map.ObjectMap.{ObjectMap}
use Rattle.tree_plans.specs.declared.planner.Planner.{Planner}
use Rattle.tree_plans.specs.declared.walk.NewTree.{NewTree}
use Rattle.tree_plans.specs.declared.plan_source.PlanSource.{PlanSource}
use Rattle.tree_plans.specs.Pointers.{entry_of, entry_pointer_of, maps_before, old_tree, planned_map, pointers_before, pointers_in}
use Rattle.tree_blocks.specs.ReadPointers.{records_among}
use Rattle.tree_plans.specs.Changes.{AreInRange, changes_of_group, has_two_levels, is_strip_dirty}
use Rattle.tree_plans.specs.Plans.{AreRecordsPlanned, AreStripsPlanned, AreApart, FreesFrom, FreesOnce, FreesOnly, Goes, IsApart, IsOf, IsOfMap, IsOfPlace, IsOfRecord, IsOfStrip, LosesBlock, IsObjectPlanned, IsReady, IsRecordPlanned, IsStripPlanned, IsTopPlanned, IsWritten, ObjectFrees, PlaceFrees, is_dirty_in, is_indirect_made, is_strip_replaced, new_block, progress_of, records_with, state_above, state_over_indirects, state_over_records}
use Rattle.tree_blocks.specs.BlockPlaces.{place_of}
use Rattle.tree_plans.specs.Walks.{AreDirectoriesPlanned, AreObjectsPlanned, DirectoriesFree, IsDirectoryPlanned, IsOfDirectory, IsOfObject, IsRootPlanned, IsWalked, ObjectsFree, is_directory_dirty, has_object, root_state}
use Rattle.tree_plans.specs.Uses.{ObjectUses, ObjectsUse, PointersUse, StripsUse, UsesOnly}
use Rattle.tree_plans.specs.Order.{Adds, AreInOrder, address_if, new_addresses, addresses_where, all_addresses, object_addresses, strip_addresses}
use Rattle.tree_plans.specs.Room.{Lacks, is_indirect_needed, is_top_needed}

-- and so of each of these objects that has a place in the tree
abbrev pub AreReady : (ℕ → ℕ → Type 0) → List (ObjectId × ObjectChanges) → Type 0
AreReady has objects = (n : ℕ) (changes : ObjectChanges) → n < object_count → entry_of objects n ≡ Some changes → IsReady (has n) changes

-- The map of an object has the pointers in the indirect block of each strip that is looked at, or the strip has no such
-- block. Those with address 0 are none.
pub record IsReadAsNeeded (is_long : Bool) (changes : ObjectChanges) (m : ObjectMap) : Type 0 where
  pub strips : (j : ℕ) → j < pointer_count → is_strip_replaced is_long changes j ≡ true → (is_some (records_among m.strips.entries j) ≡ true) ⊎ (pointer_of_list m.indirects.items j ≡ no_pointer)
  pub named : (j k : ℕ) → j < pointer_count → k < pointer_count
      → IfSome (records_among m.strips.entries j) (λ (v : Vec Pointer). (pointer_of_list v.items k).address ≡ 0 → pointer_of_list v.items k ≡ no_pointer)

abbrev pub IsMapRead : ChangedObject → Type 0
IsMapRead object = IsReadAsNeeded object.is_long object.changes.now object.old.now

-- so of an object of a source, and of each of these objects that is in the tree
pub record IsMapReadOf (source : PlanSource) (after : FinMap nat_cmp (List ℕ)) (id : ObjectId) (changes : ObjectChanges) : Type 0 where
  pub there : is_some (entry_of source.old_maps.now.entries id.0) ≡ true
  pub read : IfSome (entry_of source.old_maps.now.entries id.0) (IsReadAsNeeded (has_two_levels (finite.get after id.0)) changes)

abbrev pub AreMapsRead : PlanSource → FinMap nat_cmp (List ℕ) → List (ObjectId × ObjectChanges) → Type 0
AreMapsRead source after objects = (id : ObjectId) (changes : ObjectChanges) → id.0 < object_count → entry_of objects id.0 ≡ Some changes → IsMapReadOf source after id changes

-- The plan goes over the first strips that were read or have a record to write, and over no others. It has a pointer
-- for each record of these.
pub record AreMet (object : ChangedObject) (count : ℕ) (strips : List (ℕ × Vec Pointer)) : Type 0 where
  pub whole : (j : ℕ) → IfSome (records_among strips j) (λ (v : Vec Pointer). vec_len v ≡ pointer_count)
  pub below : (j : ℕ) → is_some (records_among strips j) ≡ true → j < count
  pub over : (j : ℕ) → is_some (records_among strips j) ≡ true → (is_some (records_among object.old.now.strips.entries j) || is_strip_dirty object.changes.now j) ≡ true
  pub met : (j : ℕ) → j < count → is_some (records_among strips j) ≡ false
      → (is_some (records_among object.old.now.strips.entries j) ≡ false) × (is_strip_dirty object.changes.now j ≡ false)

-- the pointers that an object had, as they were read
abbrev pub old_in : ChangedObject → ObjectPointers
old_in object = pointers_in [] object.old.now

-- the new blocks of a plan so far
abbrev pub new_blocks_of : Planner → List NewBlock
new_blocks_of p = map new_block p.blocks.items

-- what every part keeps: it takes the lowest free blocks, and what the plan has stays
abbrev pub ExtendsPlan : FreeSpace → Planner → Planner → Type 0
ExtendsPlan free old new = Goes free.free (progress_of old) (progress_of new)

-- an error tells that the plan so far and so many blocks more are more than are free
abbrev pub TellsLack : FreeSpace → Planner → ℕ → PoolError → Type 0
TellsLack free planner count e = e ≡ error.NoSpace → Lacks free.free (progress_of planner) count

-- the pointer that the tree of a source has to a directory
abbrev pub directory_before : PlanSource → ℕ → Pointer
directory_before source d = slice_index_or source.tree.now.directories.items d no_pointer

-- what a group makes of the objects of a source, if these are the objects after it
abbrev pub group_in : PlanSource → FinMap nat_cmp (List ℕ) → List (ObjectId × ObjectChanges) → GroupChanges
group_in source after objects = changes_of_group objects (pointers_before source) after

-- one block is taken: it stands at its place, and the one that it replaces comes back
pub record TakesBlock (free : FreeSpace) (place : BlockPlace) (payload : List ℕ) (replaced : Pointer) (old new : Planner) (pointer : Pointer) : Type 0 where
  pub goes : ExtendsPlan free old new
  pub written : IsWritten (progress_of new) (place_of place) replaced pointer (padded payload)
  pub frees : FreesOnly old.freed.items new.freed.items replaced
  pub once : FreesOnce old.freed.items new.freed.items (IsOf replaced)
  pub uses : UsesOnly (new_blocks_of old) (new_blocks_of new) pointer.address
  pub adds : Adds (new_blocks_of old) (new_blocks_of new) (pointer.address ∷ [])

-- a place has no block any more: none is taken, and the one that it had comes back
pub record ClearsPlace (replaced : Pointer) (old new : Planner) (pointer : Pointer) : Type 0 where
  pub goes : (free : FreeSpace) → ExtendsPlan free old new
  pub cleared : LosesBlock (progress_of new) replaced pointer
  pub frees : FreesOnly old.freed.items new.freed.items replaced
  pub once : FreesOnce old.freed.items new.freed.items (IsOf replaced)
  pub none_taken : new.blocks ≡ old.blocks

-- a record of an object: it takes a block if it is dirty, and has none if it is a hole
pub record PlansRecord (free : FreeSpace) (place : RecordPlace) (bytes : List ℕ) (was : Pointer) (state : RecordState) (old new : Planner) (pointer : Pointer) : Type 0 where
  pub goes : ExtendsPlan free old new
  pub planned : IsRecordPlanned (progress_of new) place.id.0 place.strip place.index bytes state was pointer
  pub frees : PlaceFrees old.freed.items new.freed.items state was
  pub once : FreesOnce old.freed.items new.freed.items (IsOfPlace state was)
  pub uses : UsesOnly (new_blocks_of old) (new_blocks_of new) pointer.address
  pub adds : Adds (new_blocks_of old) (new_blocks_of new) (address_if (is_dirty state) pointer)

-- the records of a strip, rising
pub record PlansRecords (free : FreeSpace) (object : ChangedObject) (bytes : List ℕ) (strip : ℕ) (old new : Planner) (records : List Pointer) : Type 0 where
  pub goes : ExtendsPlan free old new
  pub planned : AreRecordsPlanned (progress_of new) object.id.0 strip bytes object.is_long object.changes.now ((old_in object).record_at strip) pointer_count (pointer_of_list records)
  pub frees : FreesFrom old.freed.items new.freed.items (IsOfRecord object.is_long object.changes.now (old_in object) strip pointer_count)
  pub once : IsApart (old_in object) → FreesOnce old.freed.items new.freed.items (IsOfRecord object.is_long object.changes.now (old_in object) strip pointer_count)
  pub uses : PointersUse (new_blocks_of old) (new_blocks_of new) (pointer_of_list records) pointer_count
  pub adds : Adds (new_blocks_of old) (new_blocks_of new) (addresses_where (is_dirty_in object strip) (pointer_of_list records) pointer_count)

-- the records of the first strips of an object, rising
pub record PlansStripsBelow (free : FreeSpace) (object : ChangedObject) (bytes : List ℕ) (count : ℕ) (old new : Planner) (strips : List (ℕ × Vec Pointer)) : Type 0 where
  pub goes : ExtendsPlan free old new
  pub planned : AreStripsPlanned (progress_of new) object.id.0 bytes object.is_long object.changes.now (old_in object) count (records_with (old_in object) strips)
  pub frees : FreesFrom old.freed.items new.freed.items (IsOfStrip object.is_long object.changes.now (old_in object) count)
  pub once : IsApart (old_in object) → FreesOnce old.freed.items new.freed.items (IsOfStrip object.is_long object.changes.now (old_in object) count)
  pub uses : StripsUse (new_blocks_of old) (new_blocks_of new) strips count
  pub adds : Adds (new_blocks_of old) (new_blocks_of new) (strip_addresses (is_dirty_in object) (records_with (old_in object) strips) count)

abbrev pub PlansStrips : FreeSpace → ChangedObject → List ℕ → Planner → Planner → List (ℕ × Vec Pointer) → Type 0
PlansStrips free object bytes old new strips = PlansStripsBelow free object bytes pointer_count old new strips

-- one strip more goes over to those that are done
pub record PassesStrip (free : FreeSpace) (object : ChangedObject) (bytes : List ℕ) (strip : ℕ) (strips : List (ℕ × Vec Pointer)) (old new : Planner) (planned_strips : List (ℕ × Vec Pointer)) : Type 0 where
  pub met : AreMet object strip strips → AreMet object (strip + 1) planned_strips
  pub done : (first : Planner) → AreMet object strip strips → PlansStripsBelow free object bytes strip first old strips → PlansStripsBelow free object bytes (strip + 1) first new planned_strips

-- the indirect block of a strip, over these records
pub record PlansIndirect (free : FreeSpace) (object : ChangedObject) (strip : ℕ) (records : List Pointer) (was : Pointer) (old new : Planner) (pointer : Pointer) : Type 0 where
  pub goes : ExtendsPlan free old new
  pub planned : IsStripPlanned (progress_of new) object.id.0 strip (pointer_of_list records) (state_over_records object strip records) was pointer
  pub frees : PlaceFrees old.freed.items new.freed.items (state_over_records object strip records) was
  pub once : FreesOnce old.freed.items new.freed.items (IsOfPlace (state_over_records object strip records) was)
  pub uses : UsesOnly (new_blocks_of old) (new_blocks_of new) pointer.address
  pub adds : Adds (new_blocks_of old) (new_blocks_of new) (address_if (is_dirty (state_over_records object strip records)) pointer)

-- what becomes of the indirect block of a strip that the plan doesn't go over, and of one that it does, over its
-- records
abbrev pub MadeBy : Planner → ChangedObject → ℕ → Option (Vec Pointer) → Pointer → Type 0
MadeBy planner object j None pointer = pointer ≡ (old_in object).strip j
MadeBy planner object j (Some v) pointer = IsStripPlanned (progress_of planner) object.id.0 j (pointer_of_list v.items) (state_over_records object j v.items) ((old_in object).strip j) pointer

abbrev pub IsIndirectMade : Planner → ChangedObject → List (ℕ × Vec Pointer) → ℕ → Pointer → Type 0
IsIndirectMade planner object strips j pointer = MadeBy planner object j (records_among strips j) pointer

-- an address is that of the indirect block of a strip that is replaced, by the records that were placed, and so of
-- one of the first strips
pub record IsOfMadeAt (object : ChangedObject) (strips : List (ℕ × Vec Pointer)) (strip address : ℕ) : Type 0 where
  pub records : Vec Pointer
  pub records_are : records_among strips strip ≡ Some records
  pub is_of : IsOfPlace (state_over_records object strip records.items) ((old_in object).strip strip) address

pub record IsOfMade (object : ChangedObject) (strips : List (ℕ × Vec Pointer)) (count address : ℕ) : Type 0 where
  pub strip : ℕ
  pub low : strip < count
  pub made : IsOfMadeAt object strips strip address

-- the indirect block of a strip, over these records of its object
pub record PlansMet (free : FreeSpace) (object : ChangedObject) (strip : ℕ) (strips : List (ℕ × Vec Pointer)) (old new : Planner) (pointer : Pointer) : Type 0 where
  pub goes : ExtendsPlan free old new
  pub planned : IsIndirectMade new object strips strip pointer
  pub frees : FreesFrom old.freed.items new.freed.items (IsOfMadeAt object strips strip)
  pub once : FreesOnce old.freed.items new.freed.items (IsOfMadeAt object strips strip)
  pub uses : UsesOnly (new_blocks_of old) (new_blocks_of new) pointer.address
  pub adds : Adds (new_blocks_of old) (new_blocks_of new) (address_if (is_indirect_made object strips strip) pointer)

-- the indirect blocks of the first strips of an object, rising, over these records
pub record PlansIndirectsBelow (free : FreeSpace) (object : ChangedObject) (strips : List (ℕ × Vec Pointer)) (count : ℕ) (old new : Planner) (indirects : List Pointer) : Type 0 where
  pub goes : ExtendsPlan free old new
  pub planned : (j : ℕ) → j < count → IsIndirectMade new object strips j (pointer_of_list indirects j)
  pub frees : FreesFrom old.freed.items new.freed.items (IsOfMade object strips count)
  pub once : IsApart (old_in object) → FreesOnce old.freed.items new.freed.items (IsOfMade object strips count)
  pub uses : PointersUse (new_blocks_of old) (new_blocks_of new) (pointer_of_list indirects) count
  pub adds : Adds (new_blocks_of old) (new_blocks_of new) (addresses_where (is_indirect_made object strips) (pointer_of_list indirects) count)

abbrev pub PlansIndirects : FreeSpace → ChangedObject → List (ℕ × Vec Pointer) → Planner → Planner → List Pointer → Type 0
PlansIndirects free object strips old new indirects = PlansIndirectsBelow free object strips pointer_count old new indirects

-- the top of an object, over these indirect blocks
pub record PlansTop (free : FreeSpace) (object : ChangedObject) (indirects : List Pointer) (old new : Planner) (pointer : Pointer) : Type 0 where
  pub goes : ExtendsPlan free old new
  pub planned : IsTopPlanned (progress_of new) object.id.0 (pointer_of_list indirects) (state_over_indirects object indirects) (old_in object).top pointer
  pub frees : FreesOnly old.freed.items new.freed.items (old_in object).top
  pub once : FreesOnce old.freed.items new.freed.items (IsOf (old_in object).top)
  pub uses : UsesOnly (new_blocks_of old) (new_blocks_of new) pointer.address
  pub adds : Adds (new_blocks_of old) (new_blocks_of new) (address_if (is_dirty (state_over_indirects object indirects)) pointer)

-- an object: its records, then its indirect blocks, and then its top. Its pointers were as these told ones say, where
-- they weren't read.
pub record PlansObject (free : FreeSpace) (object : ChangedObject) (after : Option (List ℕ)) (told : List (ℕ × (Pointer × List Pointer))) (old new : Planner) (entry : ObjectEntry) : Type 0 where
  pub goes : ExtendsPlan free old new
  pub planned : IsObjectPlanned (progress_of new) object.id.0 (unwrap_or after []) object.is_long object.changes.now (pointers_in told object.old.now) (pointers_of_entry entry)
  pub named : entry.pointer ≡ (if object.is_long then (pointers_of_entry entry).top else (pointers_of_entry entry).strip 0)
  pub frees : ObjectFrees old.freed.items new.freed.items object.is_long object.changes.now (pointers_in told object.old.now)
  pub once : IsApart (pointers_in told object.old.now) → FreesOnce old.freed.items new.freed.items (IsOfMap object.is_long object.changes.now (pointers_in told object.old.now))
  pub uses : ObjectUses (new_blocks_of old) (new_blocks_of new) (pointers_of_entry entry)
  pub adds : Adds (new_blocks_of old) (new_blocks_of new)
      (strip_addresses (is_dirty_in object) (pointers_of_entry entry).record_at pointer_count
      ++ addresses_where (is_indirect_needed object.is_long object.changes.now (pointers_in told object.old.now)) (pointers_of_entry entry).strip pointer_count
      ++ address_if (is_top_needed object.is_long object.changes.now (pointers_in told object.old.now)) (pointers_of_entry entry).top)

-- one object of a walk goes over to those that are done, if the objects of the walk have these changes for it
pub record GoesOver (source : PlanSource) (after : FinMap nat_cmp (List ℕ)) (id : ObjectId) (changes : ObjectChanges) (entries : List (ObjectId × ObjectEntry)) (old new : Planner) (planned_entries : List (ObjectId × ObjectEntry)) : Type 0 where
  pub goes : ExtendsPlan source.free.now old new
  pub planned : (objects done : List (ObjectId × ObjectChanges)) → entry_of objects id.0 ≡ Some changes
      → AreObjectsPlanned (progress_of old) (maps_before source) after objects done entries
      → AreObjectsPlanned (progress_of new) (maps_before source) after objects (done ++ ((id, changes) ∷ [])) planned_entries
  pub frees : (objects : List (ObjectId × ObjectChanges)) (first : List ℕ) → entry_of objects id.0 ≡ Some changes
      → ObjectsFree first old.freed.items (maps_before source) after objects entries
      → ObjectsFree first new.freed.items (maps_before source) after objects planned_entries
  pub once : (objects : List (ObjectId × ObjectChanges)) (first : List ℕ) → entry_of objects id.0 ≡ Some changes → entry_of entries id.0 ≡ None
      → AreApart (pointers_before source)
      → ObjectsFree first old.freed.items (maps_before source) after objects entries
      → FreesOnce first old.freed.items (IsOfObject (maps_before source) after objects entries)
      → FreesOnce first new.freed.items (IsOfObject (maps_before source) after objects planned_entries)
  pub uses : (first : List NewBlock) → entry_of entries id.0 ≡ None → ObjectsUse first (new_blocks_of old) entries → ObjectsUse first (new_blocks_of new) planned_entries
  pub others : (n : ℕ) → (id.0 == n) ≡ false → entry_of planned_entries n ≡ entry_of entries n
  pub adds : (objects : List (ObjectId × ObjectChanges)) → entry_of objects id.0 ≡ Some changes → id.0 < object_count → AreInRange objects after
      → Adds (new_blocks_of old) (new_blocks_of new) (object_addresses (group_in source after objects) id.0 (planned_map (maps_before source) planned_entries id.0))

-- the objects that operations are on, rising
pub record PlansObjects (source : PlanSource) (after : FinMap nat_cmp (List ℕ)) (objects : BTreeMap ObjectId ObjectChanges) (old new : Planner) (entries : BTreeMap ObjectId ObjectEntry) : Type 0 where
  pub goes : ExtendsPlan source.free.now old new
  pub planned : AreObjectsPlanned (progress_of new) (maps_before source) after objects.entries objects.entries entries.entries
  pub frees : ObjectsFree old.freed.items new.freed.items (maps_before source) after objects.entries entries.entries
  pub once : AreApart (pointers_before source)
      → FreesOnce old.freed.items new.freed.items (IsOfObject (maps_before source) after objects.entries entries.entries)
  pub uses : ObjectsUse (new_blocks_of old) (new_blocks_of new) entries.entries
  pub adds : AreInRange objects.entries after → Adds (new_blocks_of old) (new_blocks_of new) (all_addresses (group_in source after objects.entries) (planned_map (maps_before source) entries.entries) object_count)

-- a directory: it takes a block if something of it changes and an object of it is there
pub record PlansDirectory (source : PlanSource) (after : FinMap nat_cmp (List ℕ)) (entries : BTreeMap ObjectId ObjectEntry) (index : ℕ) (touched : Bool) (old new : Planner) (pointer : Pointer) : Type 0 where
  pub goes : ExtendsPlan source.free.now old new
  pub planned : IsDirectoryPlanned (progress_of new) (entry_pointer_of source.tree.now.entries.items) entries.entries after index
      (state_above touched (has_object after index)) (directory_before source index) pointer
  pub frees : PlaceFrees old.freed.items new.freed.items (state_above touched (has_object after index)) (directory_before source index)
  pub once : FreesOnce old.freed.items new.freed.items (IsOfPlace (state_above touched (has_object after index)) (directory_before source index))
  pub uses : UsesOnly (new_blocks_of old) (new_blocks_of new) pointer.address
  pub adds : Adds (new_blocks_of old) (new_blocks_of new) (address_if (is_dirty (state_above touched (has_object after index))) pointer)

-- all directories, rising
pub record PlansDirectories (source : PlanSource) (after : FinMap nat_cmp (List ℕ)) (objects : BTreeMap ObjectId ObjectChanges) (entries : BTreeMap ObjectId ObjectEntry) (old new : Planner) (directories : List Pointer) : Type 0 where
  pub goes : ExtendsPlan source.free.now old new
  pub planned : AreDirectoriesPlanned (progress_of new) (entry_pointer_of source.tree.now.entries.items) entries.entries after objects.entries source.tree.now.directories.items pointer_count directories
  pub frees : DirectoriesFree old.freed.items new.freed.items objects.entries after source.tree.now.directories.items pointer_count
  pub once : AreApart (pointers_before source)
      → FreesOnce old.freed.items new.freed.items (IsOfDirectory objects.entries after source.tree.now.directories.items pointer_count)
  pub uses : PointersUse (new_blocks_of old) (new_blocks_of new) (pointer_of_list directories) pointer_count
  pub adds : Adds (new_blocks_of old) (new_blocks_of new) (addresses_where (is_directory_dirty objects.entries after) (pointer_of_list directories) pointer_count)

-- the root: it takes a block if an operation is on an object and some object is there
pub record PlansRoot (source : PlanSource) (after : FinMap nat_cmp (List ℕ)) (objects : BTreeMap ObjectId ObjectChanges) (directories : List Pointer) (old new : Planner) (root : Pointer) : Type 0 where
  pub goes : ExtendsPlan source.free.now old new
  pub planned : IsRootPlanned (progress_of new) directories (root_state objects.entries after) source.tree.now.root root
  pub frees : PlaceFrees old.freed.items new.freed.items (root_state objects.entries after) source.tree.now.root
  pub once : FreesOnce old.freed.items new.freed.items (IsOfPlace (root_state objects.entries after) source.tree.now.root)
  pub uses : UsesOnly (new_blocks_of old) (new_blocks_of new) root.address
  pub adds : Adds (new_blocks_of old) (new_blocks_of new) (address_if (is_dirty (root_state objects.entries after)) root)

-- a plan that has nothing yet
pub record HasNothing (planner : Planner) : Type 0 where
  pub freed : planner.freed.items ≡ []
  pub planned : planner.blocks.items ≡ []

-- the whole walk, from a plan that has nothing yet
pub record PlansTree (source : PlanSource) (after : FinMap nat_cmp (List ℕ)) (objects : BTreeMap ObjectId ObjectChanges) (old new : Planner) (tree : NewTree) : Type 0 where
  pub goes : ExtendsPlan source.free.now old new
  pub count : vec_len tree.directories ≡ pointer_count
  pub walked : IsWalked (progress_of new) (old_tree source) after objects.entries tree.entries.entries tree.directories.items tree.root
  pub used : AreUsed (new_blocks_of new) (pointers_by tree.root tree.directories.items (planned_map (maps_before source) tree.entries.entries))
  pub once : AreApart (pointers_before source) → IsDistinct nat_eq new.freed.items
  pub order : AreInRange objects.entries after → AreInOrder (new_addresses (new_blocks_of new)) (pointers_by tree.root tree.directories.items (planned_map (maps_before source) tree.entries.entries)) (group_in source after objects.entries)
