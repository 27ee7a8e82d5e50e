-- Which bytes are the block of a node, and which are the payload of a node that says what it has to say.
use Rattle.std.specs.Prelude.{ℕ, zero, suc, ◌≡◌, ◌≢◌, ◌≤◌, ◌<◌, ◌+◌, ◌*◌, ◌⊎◌, List, drop, false}
use Rattle.base.specs.declared.error.PoolError.{PoolError}
use Rattle.base.specs.declared.error.PoolError.TheVariants.{Read, Damaged}
use Rattle.base.specs.declared.pointer.Pointer.{Pointer}
use Rattle.base.specs.formats.Fields.{no_pointer, part}
use Rattle.base.specs.formats.Geometry.{block_size}
use Rattle.base.specs.formats.Blocks.{Frame, IsBlock}
use Rattle.mapped_labels.specs.declared.map_entry.MapEntry.{MapEntry}
use Rattle.mapped_labels.specs.declared.side.Side.{Side}
use Rattle.mapped_labels.specs.Shapes.{bit_count, blocks_below, fan, level_size, side_address}
use Rattle.mapped_labels.specs.Entries.{no_entry}
use Rattle.space_maps.specs.Nodes.{bit_in, count_true, map_entry_in}

-- these bytes are the block of the node of this kind and number that a pointer names: born when it says, and with its
-- check
pub record IsNodeBlock (block : List ℕ) (kind guid number : ℕ) (pointer : Pointer) : Type 0 where
  pub sealed : IsBlock block kind guid pointer.birth number (drop 64 block)
  pub check : part block 32 32 ≡ pointer.check

-- a node may be where a pointer says, and as old: its address is that of one of the node's sides
abbrev pub IsNodePlace : Frame → ℕ → ℕ → Pointer → Type 0
IsNodePlace frame size number pointer = ((side : Side) × (pointer.address ≡ side_address size number side)) × (pointer.birth ≤ frame.group)

-- the node of this kind and number that a pointer names stands in the image
pub record IsNodeAt (image : List ℕ) (frame : Frame) (size kind number : ℕ) (pointer : Pointer) : Type 0 where
  pub place : IsNodePlace frame size number pointer
  pub block : IsNodeBlock (part image pointer.address block_size) kind frame.guid number pointer

-- why a read of a node is refused: the device refused it, or the node doesn't stand there
abbrev pub IsNodeRefusal : List ℕ → Frame → ℕ → ℕ → ℕ → Pointer → PoolError → Type 0
IsNodeRefusal image frame size kind number pointer e =
    (e ≡ Read) ⊎ ((e ≡ Damaged kind pointer.address) × (IsNodeAt image frame size kind number pointer → ⊥))

-- what a map says of a node that the map has: it has a block, or all blocks below it are free; of a node that it has
-- not it says nothing
abbrev pub IsEntryOf : ℕ → ℕ → ℕ → MapEntry → Type 0
IsEntryOf size level index entry =
    ((level_size size level ≤ index) × (entry ≡ no_entry))
    ⊎ ((index < level_size size level) × ((entry.pointer.address ≢ 0) ⊎ ((entry.pointer ≡ no_pointer) × (entry.count ≡ blocks_below size level index))))

-- the sum of the counts of the first entries of a payload
unfoldable pub count_sum : List ℕ → ℕ → ℕ
count_sum payload zero = 0
count_sum payload (suc n) = count_sum payload n + (map_entry_in payload n).count

-- the payload of a map node above the nodes of a level: an entry for each of them
abbrev pub AreEntries : ℕ → ℕ → ℕ → List ℕ → Type 0
AreEntries size level index payload = (k : ℕ) → k < fan → IsEntryOf size level (fan * index + k) (map_entry_in payload k)

-- the bits from this one on are 0
abbrev pub AreClearFrom : ℕ → List ℕ → Type 0
AreClearFrom first payload = (k : ℕ) → first ≤ k → k < bit_count → bit_in payload k ≡ false

-- The payload of a map node, or of a bits block, agrees with what its entry counts.
abbrev pub HoldsEntries : ℕ → ℕ → ℕ → MapEntry → List ℕ → Type 0
HoldsEntries size level index entry payload = AreEntries size level index payload × (count_sum payload fan ≡ entry.count)

abbrev pub HoldsBits : ℕ → ℕ → MapEntry → List ℕ → Type 0
HoldsBits size index entry payload = AreClearFrom (blocks_below size 0 index) payload × (count_true (bit_in payload) bit_count ≡ entry.count)

-- Why they are refused. What the node says is wrong, and then the node is told. Or only its count is, and then the node
-- that holds the count.
abbrev pub IsEntriesFault : ℕ → ℕ → ℕ → MapEntry → ℕ → List ℕ → PoolError → Type 0
IsEntriesFault size level index entry holder payload e =
    ((e ≡ Damaged 9 entry.pointer.address) × (AreEntries size level index payload → ⊥))
    ⊎ ((e ≡ Damaged 9 holder) × AreEntries size level index payload × (count_sum payload fan ≢ entry.count))

abbrev pub IsBitsFault : ℕ → ℕ → MapEntry → ℕ → List ℕ → PoolError → Type 0
IsBitsFault size index entry holder payload e =
    ((e ≡ Damaged 8 entry.pointer.address) × (AreClearFrom (blocks_below size 0 index) payload → ⊥))
    ⊎ ((e ≡ Damaged 9 holder) × AreClearFrom (blocks_below size 0 index) payload × (count_true (bit_in payload) bit_count ≢ entry.count))
