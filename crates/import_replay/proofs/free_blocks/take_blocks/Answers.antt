use Rattle.import_replay.proofs.FreeBlocks.{address_more}
use Rattle.import_replay.proofs.free_blocks.take_blocks.Goals as goal

pub loop-address-preserved : goal.loop-address-preserved
loop-address-preserved c = (
  c.take_block.ensures.count,
  address_more c.args.addresses.now c.loop-address.address-index c.args.free.now c.loop-address.free c.take_block.new.free c.loop-address-test.true c.loop-address.invariant.1 c.take_block.ensures.taken,
)
