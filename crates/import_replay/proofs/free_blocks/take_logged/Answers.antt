use Rattle.import_replay.specs.FreeBlocks.{logs_block}
use Rattle.trees.proofs.FreeBlocks.{taken_more}
use Rattle.import_replay.proofs.FreeBlocks.{piece_taken}
use Rattle.import_replay.proofs.free_blocks.take_logged.Goals as goal

pub loop-piece-preserved : goal.loop-piece-preserved
loop-piece-preserved c = (
  c.take_blocks.ensures.count,
  taken_more logs_block c.args.logged.now c.loop-piece.piece-index c.piece-item.result c.args.free.now c.loop-piece.free c.take_blocks.new.free
      c.loop-piece-test.true c.piece-item.is c.loop-piece.invariant.1
      (piece_taken c.piece-item.result c.loop-piece.free c.take_block.new.free c.take_blocks.new.free
      (rw c.address.ensures at c.take_block.ensures.taken) (rw c.behind.ensures at c.take_blocks.ensures.taken)),
)
