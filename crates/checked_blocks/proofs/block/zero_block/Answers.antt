use Rattle.std.proofs.Common.{refl}
use Rattle.checked_blocks.specs.Sealing.{zeros}
use Rattle.checked_blocks.proofs.block.zero_block.Goals as goal

pub returns : goal.returns
unfolding zeros
returns c = refl
