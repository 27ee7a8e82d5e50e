-- The order in which a plan takes its blocks: which addresses its steps take, one after another.
use Rattle.std.specs.Prelude.{ℕ, ◌≡◌, Bool, List, [], ◌∷◌, ◌++◌, map, filter, if◌then◌else◌}
use Rattle.std.specs.List.{flat_map, range_with_len}
use Rattle.base.specs.declared.pointer.Pointer.{Pointer}
use Rattle.base.specs.formats.Limits.{pointer_count}
use Rattle.base.specs.tree.Places.{Place}
use Rattle.base.specs.kept.PlannedTrees.{NewBlock}
use Rattle.base.specs.tree.Syncs.{GroupChanges, is_indirect_written, is_record_written, is_top_written, written_by}
use Rattle.tree_blocks.specs.Pointers.{ObjectPointers}

abbrev pub new_addresses : List NewBlock → List ℕ
new_addresses blocks = map (λ (b : NewBlock). b.address) blocks

-- blocks after a step of a plan: those before it, and after them blocks with these addresses
abbrev pub Adds : List NewBlock → List NewBlock → List ℕ → Type 0
Adds old new added = new_addresses new ≡ new_addresses old ++ added

-- the address of a block that is there if a test holds
abbrev pub address_if : Bool → Pointer → List ℕ
address_if made pointer = if made then pointer.address ∷ [] else []

-- of the first so many pointers, the addresses of those that are marked, rising
unfoldable pub addresses_where : (ℕ → Bool) → (ℕ → Pointer) → ℕ → List ℕ
addresses_where is_marked pointers count = map (λ i. (pointers i).address) (filter is_marked (range_with_len 0 count))

-- of the first strips of an object, the addresses of the records that are marked, rising
unfoldable pub strip_addresses : (ℕ → ℕ → Bool) → (ℕ → ℕ → Pointer) → ℕ → List ℕ
strip_addresses is_marked records count = flat_map (λ j. addresses_where (is_marked j) (records j) pointer_count) (range_with_len 0 count)

-- of an object: the addresses of its dirty records, rising, then those of its indirect blocks that are written, rising,
-- and then that of its top, if it is written
unfoldable pub object_addresses : GroupChanges → ℕ → ObjectPointers → List ℕ
object_addresses group n o = strip_addresses (is_record_written group n) o.record_at pointer_count
    ++ addresses_where (is_indirect_written group n) o.strip pointer_count
    ++ address_if (is_top_written group n) o.top

-- of the objects below a number, rising
unfoldable pub all_addresses : GroupChanges → (ℕ → ObjectPointers) → ℕ → List ℕ
all_addresses group map_of count = flat_map (λ n. object_addresses group n (map_of n)) (range_with_len 0 count)

-- the addresses are those of the places that are written, one for each, in their order
unfoldable pub AreInOrder : List ℕ → (Place → Pointer) → GroupChanges → Type 0
AreInOrder addresses pointers group = addresses ≡ map (λ (place : Place). (pointers place).address) (written_by group)
