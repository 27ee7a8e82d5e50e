use Rattle.space_maps.specs.Nodes.{bit_in}
use Rattle.space_maps.proofs.bits.bit_in.Goals as goal

pub returns : goal.returns
unfolding bit_in
returns c = c.is_bit.ensures
