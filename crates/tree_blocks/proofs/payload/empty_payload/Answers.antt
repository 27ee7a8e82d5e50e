use Rattle.std.proofs.Common.{refl}
use Rattle.checked_blocks.specs.Sealing.{zeros}
use Rattle.tree_blocks.proofs.payload.empty_payload.Goals as goal

pub returns : goal.returns
unfolding zeros
returns c = refl
