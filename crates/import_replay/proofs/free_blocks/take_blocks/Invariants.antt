use Rattle.std.proofs.Common.{◌≡◌, take}
use Rattle.std.specs.List.{list_any}
use Rattle.base.specs.formats.Geometry.{block_count}
use Rattle.trees.specs.FreeBlocks.{BlocksTaken, is_block_at}
use Rattle.import_replay.proofs.free_blocks.take_blocks.Given as goal

-- the blocks at the addresses so far are taken
abbrev pub invariant-loop-address : goal.invariant-loop-address
invariant-loop-address l = (l.free.blocks ≡ block_count l.geometry)
    × BlocksTaken (λ k. list_any (is_block_at k) (take l.address-index l.addresses)) l.fn.free l.free
