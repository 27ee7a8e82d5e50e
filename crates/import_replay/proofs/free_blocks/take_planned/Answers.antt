use Rattle.import_replay.specs.FreeBlocks.{plans_block}
use Rattle.trees.proofs.FreeBlocks.{taken_more}
use Rattle.import_replay.proofs.FreeBlocks.{number_taken}
use Rattle.import_replay.proofs.free_blocks.take_planned.Goals as goal

pub loop-block-preserved : goal.loop-block-preserved
loop-block-preserved c =
    taken_more plans_block c.args.planned.now c.loop-block.block-index c.block-item.result c.args.free.now c.loop-block.free c.take.new.self
    c.loop-block-test.true c.block-item.is c.loop-block.invariant (rw c.take.ensures (number_taken c.block-item.result.index c.loop-block.free))
