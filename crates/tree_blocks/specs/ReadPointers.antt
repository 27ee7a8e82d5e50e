-- The pointers of an object before a group, as far as they were read.
use Rattle.std.specs.Prelude.{ℕ, ◌==◌, List, [], Option}
use Rattle.std.specs.Global.{Vec}
use Rattle.std.specs.Map.{lookup}
use Rattle.std.specs.Option.{option_map_or}
use Rattle.base.specs.declared.pointer.Pointer.{Pointer}
use Rattle.tree_blocks.specs.declared.object_map.ObjectMap.{ObjectMap}
use Rattle.tree_blocks.specs.Pointers.{pointer_of_list, told_record}

-- the pointers to the records of the strip of this index, if they are among those of some strips
abbrev pub records_among : List (ℕ × Vec Pointer) → ℕ → Option (Vec Pointer)
records_among strips j = lookup (λ (i : ℕ). j == i) strips

-- the pointer to a record as it was read: a strip without an indirect block, or one that wasn't read, has none
abbrev pub read_record : ObjectMap → ℕ → ℕ → Pointer
read_record m j k = told_record (pointer_of_list m.indirects.items j, option_map_or (λ (v : Vec Pointer). v.items) (records_among m.strips.entries j) []) k
