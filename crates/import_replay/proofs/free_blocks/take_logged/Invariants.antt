use Rattle.std.proofs.Common.{◌≡◌, take}
use Rattle.std.specs.List.{list_any}
use Rattle.base.specs.formats.Geometry.{block_count}
use Rattle.trees.specs.FreeBlocks.{BlocksTaken}
use Rattle.import_replay.specs.FreeBlocks.{logs_block}
use Rattle.import_replay.proofs.free_blocks.take_logged.Given as goal

-- the blocks of the pieces so far are taken
abbrev pub invariant-loop-piece : goal.invariant-loop-piece
invariant-loop-piece l = (l.free.blocks ≡ block_count l.geometry)
    × BlocksTaken (λ k. list_any (logs_block k) (take l.piece-index l.logged)) l.fn.free l.free
