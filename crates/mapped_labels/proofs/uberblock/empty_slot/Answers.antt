use Rattle.std.proofs.Common.{refl}
use Rattle.uberblocks.specs.Slots.{zeros}
use Rattle.mapped_labels.proofs.uberblock.empty_slot.Goals as goal

pub returns : goal.returns
unfolding zeros
returns c = refl
