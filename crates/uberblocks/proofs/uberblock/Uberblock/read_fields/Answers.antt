use Rattle.uberblocks.specs.Slots.{fields_at}
use Rattle.uberblocks.proofs.uberblock.Uberblock.read_fields.Goals as goal

pub returns : goal.returns
unfolding fields_at
returns c = cc
