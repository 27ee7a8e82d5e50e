-- The blocks of a region, which one bits block has bits for.
use Rattle.std.specs.Prelude.{ℕ, ◌≡◌, ◌<◌, ◌≤◌, ◌+◌, ◌*◌, ◌⊎◌, ◌&&◌, ◌||◌, Bool, List}
use Rattle.base.specs.formats.Geometry.{block_address}
use Rattle.base.specs.steps.Locks.{is_in}
use Rattle.space.specs.FreeSets.{FreeSpace, is_free}
use Rattle.mapped_labels.specs.Shapes.{bit_count}
use Rattle.space_maps.specs.Nodes.{bit_in}

-- the first block of the region of a bits block
abbrev pub region_start : ℕ → ℕ
region_start index = bit_count * index

-- of so many blocks from one on those are taken whose bits are 0, and nothing else has changed
pub record TakesUsed (first count : ℕ) (payload : List ℕ) (old new : FreeSpace) : Type 0 where
  pub inside : (k : ℕ) → k < count → is_free (first + k) new ≡ (is_free (first + k) old && bit_in payload k)
  pub outside : (block : ℕ) → (block < first) ⊎ (first + count ≤ block) → is_free block new ≡ is_free block old
  pub rest : new ≡ record old { free = new.free }

-- the bits of the synced tree: its log's blocks are free by them
abbrev pub tree_bits : FreeSpace → List ℕ → ℕ → Bool
tree_bits free log block = is_free block free || is_in (block_address block) log
