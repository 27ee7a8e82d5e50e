use Rattle.trees.proofs.FreeBlocks.{address_taken}
use Rattle.import_replay.proofs.free_blocks.take_block.Goals as goal

pub returns-then-is_block_address-clause-taken : goal.returns-then-is_block_address-clause-taken
returns-then-is_block_address-clause-taken c = rw c.take.ensures (address_taken c.args.address c.block_index.result c.args.free.now c.block_index.ensures.address)
