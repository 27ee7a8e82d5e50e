-- When the free blocks do not suffice for a plan: how many blocks its steps take, told by what changes alone.
use Rattle.std.specs.Prelude.{ℕ, ◌<◌, ◌+◌, Bool, List, length, filter, sum_by, if◌then◌else◌}
use Rattle.std.specs.List.{flat_map, range_with_len}
use Rattle.std.specs.Ordering.{nat_cmp}
use Rattle.std.specs.FinMap.{FinMap}
use Rattle.std.specs.FinSet.{FinSet}
use Rattle.base.specs.declared.names.ObjectId.{ObjectId}
use Rattle.base.specs.formats.Limits.{object_count, pointer_count}
use Rattle.base.specs.tree.Syncs.{GroupChanges, is_dirty, places_of_object, written_by}
use Rattle.tree_blocks.specs.Pointers.{ObjectPointers}
use Rattle.base.specs.common.Rising.{rising}
use Rattle.tree_plans.specs.declared.changed_object.ChangedObject.{ChangedObject}
use Rattle.tree_plans.specs.declared.changes.ObjectChanges.{ObjectChanges}
use Rattle.tree_plans.specs.Plans.{HasTaken, Progress, is_dirty_in, strip_state, top_state}
use Rattle.tree_plans.specs.Walks.{is_directory_dirty}

-- the blocks of a plan so far and so many more are more than are free
abbrev pub Lacks : FinSet nat_cmp → Progress → ℕ → Type 0
Lacks free s count = HasTaken free s → length (rising free) < length s.blocks + count

-- one block if a test holds
abbrev pub count_if : Bool → ℕ
count_if made = if made then 1 else 0

-- how many of the first so many numbers are marked
unfoldable pub count_where : (ℕ → Bool) → ℕ → ℕ
count_where is_marked count = length (filter is_marked (range_with_len 0 count))

-- how many of the records of the first strips of an object are written
abbrev pub record_blocks : ChangedObject → ℕ → ℕ
record_blocks object count = sum_by (λ j. count_where (is_dirty_in object j) pointer_count) (range_with_len 0 count)

-- whether an object takes a block for the indirect block of a strip, and for its top
abbrev pub is_indirect_needed : Bool → ObjectChanges → ObjectPointers → ℕ → Bool
is_indirect_needed is_long changes was j = is_dirty (strip_state is_long changes was j)

abbrev pub is_top_needed : Bool → ObjectChanges → ObjectPointers → Bool
is_top_needed is_long changes was = is_dirty (top_state is_long changes was)

-- how many blocks an object takes, by its changes and the pointers that it had
abbrev pub needed_blocks : ChangedObject → ObjectPointers → ℕ
needed_blocks object was =
    record_blocks object pointer_count + count_where (is_indirect_needed object.is_long object.changes.now was) pointer_count + count_if (is_top_needed object.is_long object.changes.now was)

-- and by what a group makes of it
unfoldable pub object_blocks : GroupChanges → ℕ → ℕ
object_blocks group n = length (places_of_object group n)

-- and all objects below a number
unfoldable pub all_blocks : GroupChanges → ℕ → ℕ
all_blocks group count = length (flat_map (places_of_object group) (range_with_len 0 count))

-- and a whole plan: one for each place that is written
unfoldable pub written_blocks : GroupChanges → ℕ
written_blocks group = length (written_by group)

-- how many blocks the parts of a walk take: the objects, the directories
abbrev pub changed_blocks : GroupChanges → ℕ
changed_blocks group = all_blocks group object_count

abbrev pub directory_blocks : List (ObjectId × ObjectChanges) → FinMap nat_cmp (List ℕ) → ℕ
directory_blocks objects after = count_where (is_directory_dirty objects after) pointer_count
