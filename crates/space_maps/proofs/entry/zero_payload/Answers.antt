use Rattle.std.proofs.Common.{refl}
use Rattle.checked_blocks.specs.Sealing.{zeros}
use Rattle.space_maps.proofs.entry.zero_payload.Goals as goal

pub returns : goal.returns
unfolding zeros
returns c = refl
