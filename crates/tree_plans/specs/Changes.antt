-- What a plan is told of the objects that operations are on, and what it says of its tree.
use Rattle.std.specs.Prelude.{ℕ, ◌≡◌, ◌≢◌, ◌⊎◌, ◌<◌, ◌≤◌, ◌*◌, ◌==◌, ◌&&◌, ◌||◌, Bool, true, false, not, List, length, Option, None, Some, IfSome, is_some, option_map, nat_le, if◌then◌else◌}
use Rattle.std.specs.List.{list_any}
use Rattle.std.specs.BTreeSet.{contains}
use Rattle.std.specs.Option.{option_map_or}
use Rattle.std.specs.Ordering.{nat_cmp}
use Rattle.std.specs.FinMap as finite
use Rattle.std.specs.FinMap.{FinMap}
use Rattle.base.specs.declared.pointer.Pointer.{Pointer}
use Rattle.base.specs.declared.names.ObjectId.{ObjectId}
use Rattle.base.specs.declared.record_state.RecordState.{RecordState}
use Rattle.base.specs.declared.record_state.RecordState.TheVariants.{Unchanged, Dirty, Hole}
use Rattle.base.specs.formats.Limits.{object_count, indirect_count, max_length, pointer_count, record_size, record_count}
use Rattle.base.specs.formats.Fields.{no_pointer}
use Rattle.base.specs.formats.Geometry.{block_count}
use Rattle.base.specs.formats.Versions.{written_version}
use Rattle.base.specs.formats.Blocks.{Frame}
use Rattle.base.specs.tree.Places.{Place, IsPlace, object_of_indirect, record_number, record_of_strip, strip_number, strip_start}
use Rattle.base.specs.tree.Places.Place.{Top, Indirect, Data}
use Rattle.base.specs.kept.PlannedTrees.{SameEntry, SameRecord, IsZeroRecord}
use Rattle.base.specs.tree.Syncs.{GroupChanges, is_dirty, is_unchanged, pointer_numbers}
use Rattle.tree_plans.specs.declared.changes.ObjectChanges.{ObjectChanges}
use Rattle.tree_blocks.specs.Entries.{is_long_size}
use Rattle.tree_plans.specs.Pointers.{entry_of}

-- the state of a record by the changes of its object: one that is not written is a hole from the first hole on
abbrev pub state_at : ObjectChanges → ℕ → RecordState
state_at changes r = if contains nat_cmp changes.dirty r then Dirty
    else option_map_or (λ first. if nat_le first r then Hole else Unchanged) changes.first_hole Unchanged

-- the state of record r of object n: one that no operation is on stays
abbrev pub state_in : List (ObjectId × ObjectChanges) → ℕ → ℕ → RecordState
state_in objects n r = option_map_or (λ (changes : ObjectChanges). state_at changes r) (entry_of objects n) Unchanged

-- whether an operation wrote an object or set its length
abbrev pub is_changed_in : List (ObjectId × ObjectChanges) → ℕ → Bool
is_changed_in objects n = option_map_or (λ (changes : ObjectChanges). changes.is_changed) (entry_of objects n) false

-- whether a pointer names a block
abbrev pub has_address : Pointer → Bool
has_address pointer = not (pointer.address == 0)

-- whether an object has two levels of indirect blocks, where an absent one has none
abbrev pub has_two_levels : Option (List ℕ) → Bool
has_two_levels object = is_long_size (option_map length object)

-- whether an operation left a record of the strip of this index otherwise than it was, and whether it left one to write
abbrev pub is_strip_touched : ObjectChanges → ℕ → Bool
is_strip_touched changes j = list_any (λ k. not (is_unchanged (state_at changes (record_of_strip j k)))) pointer_numbers

abbrev pub is_strip_dirty : ObjectChanges → ℕ → Bool
is_strip_dirty changes j = list_any (λ k. is_dirty (state_at changes (record_of_strip j k))) pointer_numbers

-- Whether strip j of an object may have blocks after a group: each one in two levels, and in one level the first, if an
-- operation wrote the object or set its length.
abbrev pub may_have_blocks : Bool → Bool → ℕ → Bool
may_have_blocks is_long is_changed j = is_long || ((j == 0) && is_changed)

-- what a group makes of the objects of a tree: by their changes, the pointers before it, and the objects after it
abbrev pub changes_of_group : List (ObjectId × ObjectChanges) → (Place → Pointer) → FinMap nat_cmp (List ℕ) → GroupChanges
changes_of_group objects pointers after = record {
  state = state_in objects;
  had_block = λ place. has_address (pointers place);
  is_changed = is_changed_in objects;
  is_touched = λ n. is_some (entry_of objects n);
  is_present = λ n. finite.contains_key after n;
  is_long = λ n. has_two_levels (finite.get after n);
}

-- what the changes say of the objects before and after: unchanged records and objects that no operation is on are as
-- before, holes have zeros
pub record IsCoveredBy (objects : List (ObjectId × ObjectChanges)) (pointers : Place → Pointer) (before after : FinMap nat_cmp (List ℕ)) : Type 0 where
  pub records : (m k : ℕ) → m < indirect_count → k < pointer_count → state_in objects (object_of_indirect m) (record_number m k) ≡ Unchanged
      → SameRecord (pointers (Data m k)) (record_number m k) (finite.get before (object_of_indirect m)) (finite.get after (object_of_indirect m))
  pub holes : (n r : ℕ) → n < object_count → r < record_count → state_in objects n r ≡ Hole → IsZeroRecord r (finite.get after n)
  pub entries : (n : ℕ) → n < object_count → entry_of objects n ≡ None → SameEntry (finite.get before n) (finite.get after n)

-- each dirty record begins within its object, an object that is absent after or was only created has holes alone, and
-- no object is too long
pub record AreChanges (objects : List (ObjectId × ObjectChanges)) (after : FinMap nat_cmp (List ℕ)) : Type 0 where
  pub within : (n r : ℕ) → n < object_count → r < record_count → state_in objects n r ≡ Dirty → IfSome (finite.get after n) (λ bytes. record_size * r < length bytes)
  pub holes : (n r : ℕ) → n < object_count → r < record_count → is_some (entry_of objects n) ≡ true
      → (is_changed_in objects n ≡ false) ⊎ (finite.get after n ≡ None) → state_in objects n r ≡ Hole
  pub sizes : (n : ℕ) → IfSome (finite.get after n) (λ bytes. length bytes ≤ max_length)

-- each object that an operation is on has a number below the last one, and only strips that may have blocks have a
-- record to write
pub record AreInRange (objects : List (ObjectId × ObjectChanges)) (after : FinMap nat_cmp (List ℕ)) : Type 0 where
  pub numbers : (n : ℕ) → is_some (entry_of objects n) ≡ true → n < object_count
  pub strips : (n j k : ℕ) → n < object_count → j < pointer_count → k < pointer_count
      → may_have_blocks (has_two_levels (finite.get after n)) (is_changed_in objects n) j ≡ false → is_dirty (state_in objects n (record_of_strip j k)) ≡ false

-- the entry of an object names its top if it has two levels, and its first indirect block otherwise
abbrev pub IsEntryPointer : Pointer → Pointer → Pointer → Option (List ℕ) → Type 0
IsEntryPointer pointer top indirect object = IfSome object (λ bytes. pointer ≡ (if has_two_levels (Some bytes) then top else indirect))

-- an object ends before its strip j begins, or right there
abbrev pub HasNoByteFrom : ℕ → Option (List ℕ) → Type 0
HasNoByteFrom j object = IfSome object (λ bytes. length bytes ≤ strip_start j)

-- What is asked of the pointers of a tree, where the entries name these. An object that no operation is on has no
-- indirect block if it is absent, and otherwise an entry that says so. A pointer with address 0 is none. In an object
-- of two levels a strip past its end after the group, which had an indirect block, begins with a hole.
pub record AreTreePointers (objects : List (ObjectId × ObjectChanges)) (below : ℕ → Pointer) (pointers : Place → Pointer) (after : FinMap nat_cmp (List ℕ)) : Type 0 where
  pub absent : (n : ℕ) → n < object_count → entry_of objects n ≡ None → finite.get after n ≡ None → pointers (Indirect n) ≡ no_pointer
  pub entries : (n : ℕ) → n < object_count → entry_of objects n ≡ None → IsEntryPointer (below n) (pointers (Top n)) (pointers (Indirect n)) (finite.get after n)
  pub named_records : (m k : ℕ) → m < indirect_count → k < pointer_count → (pointers (Data m k)).address ≡ 0 → pointers (Data m k) ≡ no_pointer
  pub named_strips : (m : ℕ) → m < indirect_count → (pointers (Indirect m)).address ≡ 0 → pointers (Indirect m) ≡ no_pointer
  pub cut_off : (n j : ℕ) → n < object_count → j < pointer_count → is_some (entry_of objects n) ≡ true → has_two_levels (finite.get after n) ≡ true → HasNoByteFrom j (finite.get after n)
      → pointers (Indirect (strip_number n j)) ≢ no_pointer → state_in objects n (record_of_strip j 0) ≡ Hole

-- every block was born before a group
abbrev pub AreBornBefore : ℕ → (Place → Pointer) → Type 0
AreBornBefore group pointers = (place : Place) → IsPlace place → (pointers place).birth < group

-- whose blocks a plan makes: of the version that is written, of this pool, on a device of so many bytes, of this group
abbrev pub written_frame : ℕ → ℕ → ℕ → Frame
written_frame guid size group = record { version = written_version; guid = guid; blocks = block_count size; group = group }
