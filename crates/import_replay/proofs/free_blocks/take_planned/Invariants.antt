use Rattle.std.proofs.Common.{take}
use Rattle.std.specs.List.{list_any}
use Rattle.trees.specs.FreeBlocks.{BlocksTaken}
use Rattle.import_replay.specs.FreeBlocks.{plans_block}
use Rattle.import_replay.proofs.free_blocks.take_planned.Given as goal

-- the planned blocks so far are taken
abbrev pub invariant-loop-block : goal.invariant-loop-block
invariant-loop-block l = BlocksTaken (λ k. list_any (plans_block k) (take l.block-index l.planned)) l.fn.free l.free
