-- What a walk over a tree plans: objects, directories, the root.
use Rattle.std.specs.Prelude.{ℕ, ◌≡◌, ◌<◌, ◌+◌, ◌*◌, ◌/◌, ◌==◌, ◌&&◌, ◌||◌, ◌⊎◌, Bool, true, not, List, [], length, slice_get, slice_index_or, Option, Some, is_some, option_map, unwrap_or, if◌then◌else◌}
use Rattle.std.specs.List.{list_any, range_with_len}
use Rattle.std.specs.Map.{keys_of}
use Rattle.std.specs.Ordering.{nat_cmp}
use Rattle.std.specs.FinMap as finite
use Rattle.std.specs.FinMap.{FinMap}
use Rattle.base.specs.declared.pointer.Pointer.{Pointer}
use Rattle.base.specs.declared.names.ObjectId.{ObjectId}
use Rattle.base.specs.formats.Limits.{object_count, pointer_count, entry_count}
use Rattle.base.specs.formats.Fields.{no_pointer, pointer_in, entry_in}
use Rattle.base.specs.declared.record_state.RecordState.{RecordState}
use Rattle.base.specs.tree.Places.Place.{Root, Directory}
use Rattle.base.specs.tree.Syncs.{is_dirty, object_numbers}
use Rattle.tree_blocks.specs.declared.tree.ObjectEntry.{ObjectEntry}
use Rattle.tree_blocks.specs.Pointers.{ObjectPointers, pointers_of_entry}
use Rattle.tree_plans.specs.declared.changes.ObjectChanges.{ObjectChanges}
use Rattle.tree_plans.specs.Changes.{has_two_levels}
use Rattle.tree_blocks.specs.Entries.{IsEntryOfLength}
use Rattle.tree_plans.specs.Pointers.{OldTree, entry_of, planned_pointer}
use Rattle.tree_plans.specs.Plans.{HasBecome, Progress, IsObjectPlanned, IsAmong, IsOf, IsOfMap, replaces, state_above}

-- an entry of a directory, as it is written
abbrev pub IsEntryWritten : List ℕ → Pointer → Option (List ℕ) → Type 0
IsEntryWritten entry pointer object = IsEntryOfLength entry pointer (option_map length object)

-- the first entries of a directory's payload
abbrev pub AreEntriesWritten : (ℕ → Pointer) → List (ObjectId × ObjectEntry) → FinMap nat_cmp (List ℕ) → ℕ → ℕ → List ℕ → Type 0
AreEntriesWritten below planned after d count payload = (k : ℕ) → k < count
    → IsEntryWritten (entry_in payload k) (planned_pointer below planned (entry_count * d + k)) (finite.get after (entry_count * d + k))

-- What a planned object is made of: its changes, and the pointers that it had. Its length is the one after them, and
-- its entry names its top or its first indirect block.
pub record IsPlannedFrom (s : Progress) (maps : ℕ → ObjectPointers) (after : FinMap nat_cmp (List ℕ)) (objects : List (ObjectId × ObjectChanges)) (n : ℕ) (new : ObjectEntry) : Type 0 where
  pub low : n < object_count
  pub changes : ObjectChanges
  pub changes_are : entry_of objects n ≡ Some changes
  pub old : ObjectPointers
  pub old_is : maps n ≡ old
  pub planned : IsObjectPlanned s n (unwrap_or (finite.get after n) []) (has_two_levels (finite.get after n)) changes old (pointers_of_entry new)
  pub named : new.pointer ≡ (if has_two_levels (finite.get after n) then (pointers_of_entry new).top else (pointers_of_entry new).strip 0)
  pub length : new.length ≡ option_map length (finite.get after n)

-- of objects, those that were gone over are planned
pub record AreObjectsPlanned (s : Progress) (maps : ℕ → ObjectPointers) (after : FinMap nat_cmp (List ℕ)) (objects done : List (ObjectId × ObjectChanges)) (planned : List (ObjectId × ObjectEntry)) : Type 0 where
  pub each : (n : ℕ) (e : ObjectEntry) → entry_of planned n ≡ Some e → IsPlannedFrom s maps after objects n e
  pub all : (i : ℕ) (id : ObjectId) (changes : ObjectChanges) → slice_get done i ≡ Some (id, changes) → id.0 < object_count → is_some (entry_of planned id.0) ≡ true

-- an address is that of a block that a planned object replaces
pub record IsOfObject (maps : ℕ → ObjectPointers) (after : FinMap nat_cmp (List ℕ)) (objects : List (ObjectId × ObjectChanges)) (planned : List (ObjectId × ObjectEntry)) (address : ℕ) : Type 0 where
  pub number : ℕ
  pub low : number < object_count
  pub there : is_some (entry_of planned number) ≡ true
  pub changes : ObjectChanges
  pub changes_are : entry_of objects number ≡ Some changes
  pub old : ObjectPointers
  pub old_is : maps number ≡ old
  pub is_of : IsOfMap (has_two_levels (finite.get after number)) changes old address

abbrev pub ObjectsFree : List ℕ → List ℕ → (ℕ → ObjectPointers) → FinMap nat_cmp (List ℕ) → List (ObjectId × ObjectChanges) → List (ObjectId × ObjectEntry) → Type 0
ObjectsFree old new maps after objects planned = (address : ℕ) → IsAmong new address → IsAmong old address ⊎ IsOfObject maps after objects planned address

-- whether an operation is on an object of a directory
abbrev pub is_directory_touched : List (ObjectId × ObjectChanges) → ℕ → Bool
is_directory_touched objects d = list_any (λ (id : ObjectId). (id.0 / entry_count) == d) (keys_of objects)

-- whether an object of a directory is there, and whether one of any directory is
abbrev pub has_object : FinMap nat_cmp (List ℕ) → ℕ → Bool
has_object after d = list_any (λ n. finite.contains_key after n) (object_numbers d)

abbrev pub has_objects : FinMap nat_cmp (List ℕ) → Bool
has_objects after = list_any (has_object after) (range_with_len 0 pointer_count)

-- whether an operation is on an object
abbrev pub is_any_touched : List (ObjectId × ObjectChanges) → Bool
is_any_touched objects = not (length objects == 0)

-- whether the operations leave no object
abbrev pub is_emptied : List (ObjectId × ObjectChanges) → FinMap nat_cmp (List ℕ) → Bool
is_emptied objects after = is_any_touched objects && not (has_objects after)

-- whether something of a directory changes: an object of it, or all are gone, so that the root has no block either
abbrev pub is_directory_replaced : List (ObjectId × ObjectChanges) → FinMap nat_cmp (List ℕ) → ℕ → Bool
is_directory_replaced objects after d = is_emptied objects after || is_directory_touched objects d

abbrev pub directory_state : List (ObjectId × ObjectChanges) → FinMap nat_cmp (List ℕ) → ℕ → RecordState
directory_state objects after d = state_above (is_directory_replaced objects after d) (has_object after d)

-- whether a directory is written
abbrev pub is_directory_dirty : List (ObjectId × ObjectChanges) → FinMap nat_cmp (List ℕ) → ℕ → Bool
is_directory_dirty objects after d = is_dirty (directory_state objects after d)

-- what becomes of a directory
abbrev pub IsDirectoryPlanned : Progress → (ℕ → Pointer) → List (ObjectId × ObjectEntry) → FinMap nat_cmp (List ℕ) → ℕ → RecordState → Pointer → Pointer → Type 0
IsDirectoryPlanned s below planned after d state old new = HasBecome s (Directory d) state old new (AreEntriesWritten below planned after d entry_count)

abbrev pub AreDirectoriesPlanned : Progress → (ℕ → Pointer) → List (ObjectId × ObjectEntry) → FinMap nat_cmp (List ℕ) → List (ObjectId × ObjectChanges) → List Pointer → ℕ → List Pointer → Type 0
AreDirectoriesPlanned s below planned after objects old count new = (d : ℕ) → d < count
    → IsDirectoryPlanned s below planned after d (directory_state objects after d) (slice_index_or old d no_pointer) (slice_index_or new d no_pointer)

-- an address is that of a directory's block that is replaced
pub record IsOfDirectory (objects : List (ObjectId × ObjectChanges)) (after : FinMap nat_cmp (List ℕ)) (old : List Pointer) (count address : ℕ) : Type 0 where
  pub number : ℕ
  pub low : number < count
  pub replaced : replaces (directory_state objects after number) ≡ true
  pub is_of : IsOf (slice_index_or old number no_pointer) address

abbrev pub DirectoriesFree : List ℕ → List ℕ → List (ObjectId × ObjectChanges) → FinMap nat_cmp (List ℕ) → List Pointer → ℕ → Type 0
DirectoriesFree old new objects after was count = (address : ℕ) → IsAmong new address → IsAmong old address ⊎ IsOfDirectory objects after was count address

-- what becomes of the root
abbrev pub root_state : List (ObjectId × ObjectChanges) → FinMap nat_cmp (List ℕ) → RecordState
root_state objects after = state_above (is_any_touched objects) (has_objects after)

abbrev pub IsRootPlanned : Progress → List Pointer → RecordState → Pointer → Pointer → Type 0
IsRootPlanned s directories state old new = HasBecome s Root state old new (λ payload. (d : ℕ) → d < pointer_count → pointer_in payload d ≡ slice_index_or directories d no_pointer)

-- the whole walk: objects, directories, root
pub record IsWalked (s : Progress) (tree : OldTree) (after : FinMap nat_cmp (List ℕ)) (objects : List (ObjectId × ObjectChanges)) (planned : List (ObjectId × ObjectEntry)) (directories : List Pointer) (root : Pointer) : Type 0 where
  pub objects_planned : AreObjectsPlanned s tree.maps after objects objects planned
  pub directories_planned : AreDirectoriesPlanned s tree.below planned after objects tree.directories pointer_count directories
  pub root_planned : IsRootPlanned s directories (root_state objects after) tree.root root
  pub frees : (address : ℕ) → IsAmong s.freed address
      → IsOfObject tree.maps after objects planned address
      ⊎ (IsOfDirectory objects after tree.directories pointer_count address ⊎ ((replaces (root_state objects after) ≡ true) × IsOf tree.root address))
