-- A map of free blocks told by the contents of its nodes' blocks, as log blocks are told, and not by an image.
use Rattle.std.specs.Prelude.{ℕ, zero, suc, ◌≡◌, ◌≢◌, ◌<◌, ◌+◌, ◌-◌, ◌*◌, ◌↔◌, ◌⊎◌, Bool, true, drop, List, slice_get, Some}
use Rattle.base.specs.declared.pointer.Pointer.{Pointer}
use Rattle.base.specs.formats.Blocks.{Frame}
use Rattle.base.specs.formats.Fields.{no_pointer}
use Rattle.base.specs.formats.Geometry.{block_address}
use Rattle.base.specs.kept.PlannedTrees.{NewBlock}
use Rattle.base.specs.tree.Places.{Place, IsPlace}
use Rattle.mapped_labels.specs.declared.map_entry.MapEntry.{MapEntry}
use Rattle.mapped_labels.specs.Shapes.{IsSideAddress, area_blocks, bit_count, blocks_below, fan, first_node, level_count, level_size, span}
use Rattle.space_maps.specs.Nodes.{bit_in, map_entry_in}
use Rattle.space_maps.specs.Opening.{HoldsBits, HoldsEntries, IsNodeBlock, IsNodePlace}

-- the block of the node of this kind and number that a pointer names is one of these, with this payload
pub record IsToldNode (frame : Frame) (size kind number : ℕ) (blocks : List NewBlock) (pointer : Pointer) (payload : List ℕ) : Type 0 where
  pub index : ℕ
  pub block : NewBlock
  pub found : slice_get blocks index ≡ Some block
  pub address_is : pointer.address ≡ block.address
  pub place : IsNodePlace frame size number pointer
  pub node : IsNodeBlock block.content kind frame.guid number pointer
  pub payload_is : drop 64 block.content ≡ payload

-- all blocks below a node are free
abbrev pub AreFreeBelow : ℕ → ℕ → ℕ → (ℕ → Bool) → Type 0
AreFreeBelow size level index free = (k : ℕ) → k < blocks_below size level index → free (span level * index + k) ≡ true

-- What the entry of a node says of the blocks below it: all are free if it names no block. Else the node's bits say it,
-- or its entries.
abbrev pub TellsBelow : Frame → ℕ → List NewBlock → (ℕ → Bool) → ℕ → ℕ → MapEntry → Type 0
TellsBelow frame size blocks free zero index entry =
    ((entry.pointer ≡ no_pointer) × AreFreeBelow size 0 index free)
    ⊎ ((payload : List ℕ) × IsToldNode frame size 8 (first_node size 0 + index) blocks entry.pointer payload × HoldsBits size index entry payload
    × ((k : ℕ) → k < blocks_below size 0 index → bit_in payload k ≡ free (bit_count * index + k)))
TellsBelow frame size blocks free (suc level) index entry =
    ((entry.pointer ≡ no_pointer) × AreFreeBelow size (suc level) index free)
    ⊎ ((payload : List ℕ) × IsToldNode frame size 9 (first_node size (suc level) + index) blocks entry.pointer payload × HoldsEntries size level index entry payload
    × ((e : ℕ) → e < fan → fan * index + e < level_size size level → TellsBelow frame size blocks free level (fan * index + e) (map_entry_in payload e)))

-- the map under its highest node's entry says of each block of the area whether it is free
abbrev pub IsMapOf : Frame → ℕ → MapEntry → List NewBlock → (ℕ → Bool) → Type 0
IsMapOf frame size entry blocks free = TellsBelow frame size blocks free (level_count size - 1) 0 entry

-- a tree told by its pointers has a block at this address
abbrev pub HasBlockAt : (Place → Pointer) → ℕ → Type 0
HasBlockAt pointers address = (place : Place) × IsPlace place × (pointers place ≢ no_pointer) × ((pointers place).address ≡ address)

-- the map of such a tree: its blocks stand at sides of nodes, and free is what the tree hasn't
pub record IsTreeMap (frame : Frame) (size : ℕ) (entry : MapEntry) (blocks : List NewBlock) (pointers : Place → Pointer) : Type 0 where
  pub bits : ℕ → Bool
  pub map_is : IsMapOf frame size entry blocks bits
  pub bits_are : (k : ℕ) → k < area_blocks size → (bits k ≡ true) ↔ (HasBlockAt pointers (block_address k) → ⊥)
  pub sides : (i : ℕ) (b : NewBlock) → slice_get blocks i ≡ Some b → IsSideAddress size b.address
