-- Laws of maps: the bits after a sync are those of its tree, the sides that it writes are spare, and what is fixed of a
-- view stands after a crash.
use Rattle.std.specs.Prelude.{ℕ, ◌≡◌, ◌≢◌, ◌<◌, ◌+◌, ◌↔◌, ◌&&◌, ◌||◌, Bool, true, not, List, map}
use Rattle.std.specs.Ordering.{nat_cmp}
use Rattle.std.specs.FinMap.{FinMap}
use Rattle.base.specs.declared.pointer.Pointer.{Pointer}
use Rattle.base.specs.disk.Disk.{Moment, MayLeave}
use Rattle.base.specs.formats.Blocks.{Frame, payload_at}
use Rattle.base.specs.formats.Geometry.{block_address, IsBlockAddress}
use Rattle.base.specs.steps.Locks.{is_in}
use Rattle.base.specs.tree.Places.{Place, IsInTree}
use Rattle.base.specs.tree.Places.Place.{Root}
use Rattle.base.specs.kept.PlacedTrees.{HoldsTree}
use Rattle.base.specs.kept.PlannedTrees.{NewBlock, IsTreePlan, AreFreed}
use Rattle.base.specs.kept.Stored.{AreBlocks, AreUsed, LeavesTree}
use Rattle.mapped_labels.specs.declared.side.Side.{Side}
use Rattle.space_maps.specs.MappedViews.{MappedView, IsMappedFirm, mapped_frame}
use Rattle.space_maps.specs.Opening.{IsNodeAt}
use Rattle.space_maps.specs.ToldMaps.{IsToldNode}
use Rattle.mapped_labels.specs.Shapes.{IsMappedGeometry, area_blocks, total_blocks, node_count, other_side, side_address}

-- The side that a node is written to is a block between the area and label 2. It is live of no node, if each node has
-- one live side, and no block of the area.
abbrev pub OtherSidesAreSpare : Type 0
OtherSidesAreSpare = (size node : ℕ) (live : ℕ → Side) → IsMappedGeometry size → node < node_count size
    → IsBlockAddress (total_blocks size) (side_address size node (other_side (live node)))
    × (IsBlockAddress (area_blocks size) (side_address size node (other_side (live node))) → ⊥)
    × ((other : ℕ) → other < node_count size → side_address size other (live other) ≢ side_address size node (other_side (live node)))

-- the bit of each block of the area says that no place of the tree under this root has it
abbrev pub AreBitsOf : ℕ → List ℕ → Pointer → (ℕ → Bool) → Type 0
AreBitsOf area image root bits = (k : ℕ) → k < area → (bits k ≡ true) ↔ (IsInTree image root (block_address k) → ⊥)

-- the bits after a sync that took and freed these addresses
abbrev pub bits_after : List ℕ → List ℕ → (ℕ → Bool) → ℕ → Bool
bits_after taken freed bits k = (bits k || is_in (block_address k) freed) && not (is_in (block_address k) taken)

-- From the bits of the old tree these are the bits of the new one.
abbrev pub MapsFollow : Type 0
MapsFollow = (area : ℕ) (image other : List ℕ) (frame grown : Frame) (bs : List NewBlock) (old new : Place → Pointer) (before after : FinMap nat_cmp (List ℕ))
    (taken freed : List ℕ) (bits : ℕ → Bool) → HoldsTree image frame old before → HoldsTree other grown new after → IsTreePlan bs grown old new before after → LeavesTree bs old
    → AreBlocks area bs → AreUsed bs new → AreFreed old new freed → map (λ (b : NewBlock). b.address) bs ≡ taken
    → AreBitsOf area image (old Root) bits → AreBitsOf area other (new Root) (bits_after taken freed bits)

-- In each image that a crash leaves, each node of the map of a firm view stands with the payload that is told of it.
abbrev pub FirmMapsStand : Type 0
FirmMapsStand = (size flushed : ℕ) (m : Moment) (v : MappedView) (image : List ℕ) (kind number : ℕ) (pointer : Pointer) (payload : List ℕ)
    → IsMappedFirm size flushed m v → MayLeave m image → IsToldNode (mapped_frame size v) size kind number v.map pointer payload
    → IsNodeAt image (mapped_frame size v) size kind number pointer × (payload_at image pointer.address ≡ payload)
