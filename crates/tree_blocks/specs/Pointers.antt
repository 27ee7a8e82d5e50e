-- The pointers of a tree in memory, by place.
use Rattle.std.specs.Prelude.{ℕ, ◌≡◌, ◌≢◌, ◌==◌, Bool, List, [], Option, get_or, slice_get, map, nat_eq, unwrap_or, if◌then◌else◌}
use Rattle.std.specs.Option.{option_map_or}
use Rattle.std.specs.List.{range_with_len}
use Rattle.std.specs.Map.{lookup}
use Rattle.std.specs.BTreeMap as tree
use Rattle.std.specs.BTreeMap.{BTreeMap}
use Rattle.std.specs.Ordering.{nat_cmp}
use Rattle.std.specs.declared.cmp.Ordering.{Ordering}
use Rattle.base.specs.declared.names.ObjectId.{ObjectId}
use Rattle.base.specs.declared.pointer.Pointer.{Pointer}
use Rattle.base.specs.formats.Fields.{no_pointer, pointer_in}
use Rattle.base.specs.formats.Limits.{pointer_count}
use Rattle.base.specs.tree.Places.{Place, object_of_indirect, strip_of}
use Rattle.base.specs.tree.Places.Place.{Root, Directory, Top, Indirect, Data}
use Rattle.tree_blocks.specs.declared.tree.ObjectEntry.{ObjectEntry}
use Rattle.tree_blocks.specs.declared.tree.Tree.{Tree}
use Rattle.tree_blocks.specs.Entries.{is_long_size}

-- the pointer of this number in a list, none past its end
abbrev pub pointer_of_list : List Pointer → ℕ → Pointer
pointer_of_list pointers k = get_or pointers k no_pointer

-- the pointers of a payload
unfoldable pub payload_pointers : List ℕ → List Pointer
payload_pointers payload = map (λ k. pointer_in payload k) (range_with_len 0 pointer_count)

-- what is told of the strip of this index: the pointer to its indirect block, and the pointers in that block
abbrev pub strip_in : List (ℕ × (Pointer × List Pointer)) → ℕ → Pointer × List Pointer
strip_in strips j = unwrap_or (lookup (nat_eq j) strips) (no_pointer, [])

-- the pointers to the records of a strip: one that has no indirect block has none
abbrev pub told_record : Pointer × List Pointer → ℕ → Pointer
told_record strip k = if strip.0.address == 0 then no_pointer else pointer_of_list strip.1 k

-- the strip of this index is told with this pointer to its indirect block, and the others are as before
abbrev pub TellsStrip : ℕ → Pointer → List (ℕ × (Pointer × List Pointer)) → List (ℕ × (Pointer × List Pointer)) → Type 0
TellsStrip j indirect old new = ((strip_in new j).0 ≡ indirect) × ((i : ℕ) → i ≢ j → strip_in new i ≡ strip_in old i)

-- the pointers that a tree has for one object: to its top, to its indirect blocks by strip, and to its records by strip
pub record ObjectPointers : Type 0 where
  pub top : Pointer
  pub strip : ℕ → Pointer
  pub record_at : ℕ → ℕ → Pointer

-- those of no object, of one with two levels, and of one with one, by what is told of its strips
abbrev pub no_pointers : ObjectPointers
no_pointers = record { top = no_pointer; strip = λ j. no_pointer; record_at = λ j k. no_pointer }

abbrev pub long_pointers : Pointer → List (ℕ × (Pointer × List Pointer)) → ObjectPointers
long_pointers top strips = record { top = top; strip = λ j. (strip_in strips j).0; record_at = λ j k. told_record (strip_in strips j) k }

abbrev pub short_pointers : Pointer → List (ℕ × (Pointer × List Pointer)) → ObjectPointers
short_pointers indirect strips = record {
  top = no_pointer;
  strip = λ j. if j == 0 then indirect else no_pointer;
  record_at = λ j k. if j == 0 then told_record (indirect, (strip_in strips 0).1) k else no_pointer;
}

-- whether an entry is that of an object of two levels
abbrev pub is_long_entry : ObjectEntry → Bool
is_long_entry e = is_long_size e.length

-- the pointers of the object of an entry
abbrev pub pointers_of_entry : ObjectEntry → ObjectPointers
pointers_of_entry e = if is_long_entry e then long_pointers e.pointer e.strips.value else short_pointers e.pointer e.strips.value

-- those of object n
abbrev pub object_pointers : List ObjectEntry → ℕ → ObjectPointers
object_pointers entries n = option_map_or pointers_of_entry (slice_get entries n) no_pointers

-- the pointer at each place, from the pointers to the root, to the directories and of the objects
abbrev pub pointers_by : Pointer → List Pointer → (ℕ → ObjectPointers) → Place → Pointer
pointers_by root directories objects Root = root
pointers_by root directories objects (Directory d) = pointer_of_list directories d
pointers_by root directories objects (Top n) = (objects n).top
pointers_by root directories objects (Indirect m) = (objects (object_of_indirect m)).strip (strip_of m)
pointers_by root directories objects (Data m k) = (objects (object_of_indirect m)).record_at (strip_of m) k

abbrev pub pointers_at : Pointer → List Pointer → List ObjectEntry → Place → Pointer
pointers_at root directories entries = pointers_by root directories (object_pointers entries)

-- the pointer at each place of a tree in memory
abbrev pub pointers_of : Tree → Place → Pointer
pointers_of t = pointers_at t.root t.directories.items t.entries.items

-- the order of object numbers
abbrev pub id_cmp : ObjectId → ObjectId → Ordering
id_cmp a b = nat_cmp a.0 b.0

-- the entry of object n among new ones
abbrev pub entry_among : BTreeMap ObjectId ObjectEntry → ℕ → Option ObjectEntry
entry_among entries n = tree.get id_cmp entries (record { 0 = n })

-- the pointer at each place, if these objects have new entries
abbrev pub with_entries : (ℕ → Option ObjectEntry) → (Place → Pointer) → Place → Pointer
with_entries new old Root = old Root
with_entries new old (Directory d) = old (Directory d)
with_entries new old (Top n) = option_map_or (λ (e : ObjectEntry). (pointers_of_entry e).top) (new n) (old (Top n))
with_entries new old (Indirect m) = option_map_or (λ (e : ObjectEntry). (pointers_of_entry e).strip (strip_of m)) (new (object_of_indirect m)) (old (Indirect m))
with_entries new old (Data m k) =
    option_map_or (λ (e : ObjectEntry). (pointers_of_entry e).record_at (strip_of m) k) (new (object_of_indirect m)) (old (Data m k))
