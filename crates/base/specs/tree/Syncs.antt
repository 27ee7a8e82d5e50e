-- Which blocks the sync of a group writes, and in how many steps, whatever its operations are.
use Rattle.std.specs.Prelude.{ℕ, ◌+◌, ◌*◌, ◌==◌, ◌&&◌, Bool, true, false, not, Option, List, [], ◌∷◌, ◌++◌, map, filter, length, nat_lt, nat_le, Ok, Err, if◌then◌else◌}
use Rattle.std.specs.List.{list_any, flat_map, range_with_len}
use Rattle.std.specs.Option.{option_map_or}
use Rattle.std.specs.FinMap as finite
use Rattle.base.specs.declared.record_state.RecordState.{RecordState}
use Rattle.base.specs.declared.record_state.RecordState.TheVariants.{Unchanged, Dirty, Hole}
use Rattle.base.specs.declared.operation.Op.{Op}
use Rattle.base.specs.declared.operation.Op.TheVariants.{Create, Remove, Write, SetLength, SetName}
use Rattle.base.specs.formats.Limits.{object_count, max_length, one_level_length, record_size, pointer_count, entry_count}
use Rattle.base.specs.history.Contents.{Contents, apply, length_of}
use Rattle.base.specs.tree.Places.{Place, strip_number, record_of_strip}
use Rattle.base.specs.tree.Places.Place.{Root, Directory, Top, Indirect, Data}

-- whether a record has a byte of a write
abbrev pub is_record_touched : ℕ → ℕ → ℕ → Bool
is_record_touched r offset count = nat_lt offset (record_size * (r + 1)) && nat_lt (record_size * r) (offset + count)

-- after a cut to a new length: a record wholly past it is a hole, and one that it goes through is written
abbrev pub state_after_cut : ℕ → ℕ → RecordState → RecordState
state_after_cut r new state = if nat_le new (record_size * r) then Hole else (if nat_lt new (record_size * (r + 1)) then Dirty else state)

-- the state of record r of object n after an operation on contents
abbrev pub state_after_op : ℕ → ℕ → Op → Contents → RecordState → RecordState
state_after_op n r (Create m) c state = if m.0 == n then Hole else state
state_after_op n r (Remove m) c state = if m.0 == n then Hole else state
state_after_op n r (Write m offset bytes) c state = if (m.0 == n) && is_record_touched r offset (length bytes) then Dirty else state
state_after_op n r (SetLength m new) c state = if (m.0 == n) && option_map_or (λ old. nat_lt new old) (length_of c n) false then state_after_cut r new state else state
state_after_op n r (SetName bytes) c state = state

-- the contents after an operation, or as they were where it is refused
abbrev pub contents_after : Op → Contents → Contents
contents_after op c = elim (apply op c) [ Ok after ↦ after | Err e ↦ c ]

-- its state after all operations of a group, in order
abbrev pub record_state : ℕ → ℕ → List Op → Contents → RecordState → RecordState
record_state n r [] c state = state
record_state n r (op ∷ ops) c state = record_state n r ops (contents_after op c) (state_after_op n r op c state)

-- the contents after all operations of a group
abbrev pub contents_after_all : List Op → Contents → Contents
contents_after_all [] c = c
contents_after_all (op ∷ ops) c = contents_after_all ops (contents_after op c)

-- whether an operation is one on this object, and whether it may change its records
abbrev pub is_on : ℕ → Op → Bool
is_on n (Create m) = m.0 == n
is_on n (Remove m) = m.0 == n
is_on n (Write m offset bytes) = m.0 == n
is_on n (SetLength m new) = m.0 == n
is_on n (SetName bytes) = false

abbrev pub is_change_of : ℕ → Op → Bool
is_change_of n (Create m) = false
is_change_of n (Remove m) = false
is_change_of n (Write m offset bytes) = m.0 == n
is_change_of n (SetLength m new) = m.0 == n
is_change_of n (SetName bytes) = false

abbrev pub is_rename : Op → Bool
is_rename (SetName bytes) = true
is_rename (Create m) = false
is_rename (Remove m) = false
is_rename (Write m offset bytes) = false
is_rename (SetLength m new) = false

abbrev pub is_dirty : RecordState → Bool
is_dirty Unchanged = false
is_dirty Dirty = true
is_dirty Hole = false

abbrev pub is_unchanged : RecordState → Bool
is_unchanged Unchanged = true
is_unchanged Dirty = false
is_unchanged Hole = false

-- whether a record has a block after the sync, from whether it had one before
abbrev pub has_block_after : RecordState → Bool → Bool
has_block_after Unchanged before = before
has_block_after Dirty before = true
has_block_after Hole before = false

-- the numbers of the pointers of a block
abbrev pub pointer_numbers : List ℕ
pointer_numbers = range_with_len 0 pointer_count

-- whether an object of this length has two levels of indirect blocks, and whether an object does
abbrev pub is_long_length : ℕ → Bool
is_long_length length = nat_lt one_level_length length && nat_le length max_length

abbrev pub is_long_object : Option (List ℕ) → Bool
is_long_object object = option_map_or (λ bytes. is_long_length (length bytes)) object false

-- a test of what is below: the objects of a directory
abbrev pub object_numbers : ℕ → List ℕ
object_numbers d = range_with_len (entry_count * d) entry_count

-- how many steps a sync has besides its block writes: two flushes and four uberblocks, and for a new name two label
-- stages
abbrev pub other_step_count : List Op → ℕ
other_step_count ops = 6 + (if list_any is_rename ops then 6 else 0)

-- what a group makes of the objects of a tree
pub record GroupChanges : Type 0 where
  -- the state of a record, by its object and its number there
  pub state : ℕ → ℕ → RecordState
  -- which places had a block
  pub had_block : Place → Bool
  -- whether an object was written or its length set, had any operation, is there after them, and has two levels then
  pub is_changed : ℕ → Bool
  pub is_touched : ℕ → Bool
  pub is_present : ℕ → Bool
  pub is_long : ℕ → Bool

-- what a sync writes, from what its group makes of the objects
module _ (group : GroupChanges) where
  -- whether the k-th record of strip j of object n is written, and whether it has a block after
  abbrev pub is_record_written : ℕ → ℕ → ℕ → Bool
  is_record_written n j k = is_dirty (group.state n (record_of_strip j k))

  abbrev pub has_record_after : ℕ → ℕ → ℕ → Bool
  has_record_after n j k = has_block_after (group.state n (record_of_strip j k)) (group.had_block (Data (strip_number n j) k))

  -- whether some record of a strip is written or cut off, and whether some has a block after
  abbrev pub is_strip_changed : ℕ → ℕ → Bool
  is_strip_changed n j = list_any (λ k. not (is_unchanged (group.state n (record_of_strip j k)))) pointer_numbers

  abbrev pub has_strip_after : ℕ → ℕ → Bool
  has_strip_after n j = list_any (has_record_after n j) pointer_numbers

  -- An indirect block is written where some record below it has a block, and the strip changed. In an object of one
  -- level there is only the first one, which is written where the object had a write or a set length.
  abbrev pub is_indirect_written : ℕ → ℕ → Bool
  is_indirect_written n j = (if group.is_long n then is_strip_changed n j else (j == 0) && group.is_changed n) && has_strip_after n j

  -- whether a strip of an object of two levels has an indirect block after: one that is unchanged keeps the one that it
  -- had
  abbrev pub is_strip_kept : ℕ → ℕ → Bool
  is_strip_kept n j = if is_strip_changed n j then has_strip_after n j else group.had_block (Indirect (strip_number n j))

  -- a top is written where an object of two levels had a write or a set length, and some strip has an indirect block
  abbrev pub is_top_written : ℕ → Bool
  is_top_written n = (group.is_long n && group.is_changed n) && list_any (is_strip_kept n) pointer_numbers

  abbrev pub is_directory_touched : ℕ → Bool
  is_directory_touched d = list_any group.is_touched (object_numbers d)

  -- a directory is written where an object of it had an operation, and some is present
  abbrev pub is_directory_written : ℕ → Bool
  is_directory_written d = is_directory_touched d && list_any group.is_present (object_numbers d)

  -- the root is written where a directory was touched, and some object is present
  abbrev pub is_root_touched : Bool
  is_root_touched = list_any is_directory_touched (range_with_len 0 pointer_count)

  abbrev pub is_root_written : Bool
  is_root_written = is_root_touched && list_any group.is_present (range_with_len 0 object_count)

  -- the places that are written of the records of a strip
  abbrev pub places_of_strip : ℕ → ℕ → List Place
  places_of_strip n j = map (λ k. Data (strip_number n j) k) (filter (is_record_written n j) pointer_numbers)

  -- those of one object: its records, then its indirect blocks, and then its top
  abbrev pub places_of_object : ℕ → List Place
  places_of_object n = flat_map (places_of_strip n) pointer_numbers
      ++ map (λ j. Indirect (strip_number n j)) (filter (is_indirect_written n) pointer_numbers)
      ++ (if is_top_written n then Top n ∷ [] else [])

  -- all places that are written, in the order in which they take the lowest free addresses
  abbrev pub written_by : List Place
  written_by = flat_map places_of_object (range_with_len 0 object_count)
      ++ map (λ d. Directory d) (filter is_directory_written (range_with_len 0 pointer_count))
      ++ (if is_root_written then Root ∷ [] else [])

-- what the operations of a group make of the objects: the synced contents, and which places have blocks before it
abbrev pub group_changes : List Op → Contents → (Place → Bool) → GroupChanges
group_changes ops synced had_block = record {
  state = λ n r. record_state n r ops synced Unchanged;
  had_block = had_block;
  is_changed = λ n. list_any (is_change_of n) ops;
  is_touched = λ n. list_any (is_on n) ops;
  is_present = λ n. finite.contains_key (contents_after_all ops synced).objects n;
  is_long = λ n. is_long_object (finite.get (contents_after_all ops synced).objects n);
}

-- the places that the sync of these operations writes
abbrev pub written_places : List Op → Contents → (Place → Bool) → List Place
written_places ops synced had_block = written_by (group_changes ops synced had_block)
