-- Where the parts of a pool with a map of its free blocks lie on its device. Its labels and its block area begin as a
-- plain pool's do, its slots have 4,096 bytes, and the nodes of its map are the last blocks before label 2.
use Rattle.std.specs.Prelude.{ℕ, zero, suc, ◌≡◌, ◌<◌, ◌+◌, ◌-◌, ◌*◌, ◌/◌, ◌%◌, ◌==◌, ◌&&◌, Bool, cond, min, nat_le, not, true}
use Rattle.mapped_labels.specs.declared.side.Side.{Side}
use Rattle.mapped_labels.specs.declared.side.Side.TheVariants.{First, Second}
use Rattle.base.specs.formats.Geometry.{is_geometry, block_address, block_area, block_size, label_place}

-- Whether a pool on a device of so many bytes has a map: from 6 MiB to 16 TiB each multiple of 4,096 that is no size of
-- a plain pool.
abbrev pub is_mapped_geometry : ℕ → Bool
is_mapped_geometry size = nat_le 6291456 size && nat_le size 17592186044416 && ((size % 4096) == 0) && not (is_geometry size)

abbrev pub IsMappedGeometry : ℕ → Type 0
IsMappedGeometry size = is_mapped_geometry size ≡ true

-- the blocks that a bits block has bits for, and the nodes that a map node has entries for
abbrev pub bit_count : ℕ
bit_count = 32256

abbrev pub fan : ℕ
fan = 72

-- the blocks between the boot area and label 2: those of the area, and the sides of the map
abbrev pub total_blocks : ℕ → ℕ
total_blocks size = (size - 524288 - block_area) / block_size

-- how many nodes a level has over so many blocks: bits blocks in level 0, and above each level the nodes that have
-- entries for it
abbrev pub nodes_over : ℕ → ℕ → ℕ
nodes_over total zero = (total + 32255) / 32256
nodes_over total (suc level) = (nodes_over total level + 71) / 72

-- and how many all levels below a level have
abbrev pub nodes_up_to : ℕ → ℕ → ℕ
nodes_up_to total zero = 0
nodes_up_to total (suc level) = nodes_up_to total level + nodes_over total level

-- the nodes of a level of a device's map
abbrev pub level_size : ℕ → ℕ → ℕ
level_size size level = nodes_over (total_blocks size) level

-- the levels, up to the first one of one node
abbrev pub level_count : ℕ → ℕ
level_count size = cond (nat_le (level_size size 0) 1) 1 (cond (nat_le (level_size size 1) 1) 2 (cond (nat_le (level_size size 2) 1) 3 4))

-- the number of the first node of a level: nodes are numbered through all levels, the bits blocks first
abbrev pub first_node : ℕ → ℕ → ℕ
first_node size level = nodes_up_to (total_blocks size) level

-- the nodes of a map
abbrev pub node_count : ℕ → ℕ
node_count size = first_node size (level_count size)

-- the blocks of the area: all but two for each node
abbrev pub area_blocks : ℕ → ℕ
area_blocks size = total_blocks size - 2 * node_count size

-- the sides of a node, by their order
abbrev pub side_number : Side → ℕ
side_number First = 0
side_number Second = 1

-- and the one that is not live
abbrev pub other_side : Side → Side
other_side First = Second
other_side Second = First

-- the address of a side of a node: the sides stand after the blocks of the area, two and two
abbrev pub side_address : ℕ → ℕ → Side → ℕ
side_address size node side = block_address (area_blocks size + (2 * node + side_number side))

-- an address of a side of a node of the map
abbrev pub IsSideAddress : ℕ → ℕ → Type 0
IsSideAddress size address = (node : ℕ) × (side : Side) × (node < node_count size) × (address ≡ side_address size node side)

-- the blocks below a node of a level, if the area has as many, and those that it has
abbrev pub span : ℕ → ℕ
span zero = 32256
span (suc level) = 72 * span level

abbrev pub blocks_below : ℕ → ℕ → ℕ → ℕ
blocks_below size level index = min (span level) (area_blocks size - span level * index)

-- the slots of a label's uberblock array, and the bytes of each: a slot is as large as a block
abbrev pub mapped_slot_count : ℕ
mapped_slot_count = 32

abbrev pub mapped_slot_size : ℕ
mapped_slot_size = 4096

-- where a slot of a label's uberblock array lies
abbrev pub mapped_slot_place : ℕ → ℕ → ℕ → ℕ
mapped_slot_place size label slot = label_place size label + 131072 + 4096 * slot

-- the slot of a group's uberblock
abbrev pub mapped_slot_of : ℕ → ℕ
mapped_slot_of group = group % 32
