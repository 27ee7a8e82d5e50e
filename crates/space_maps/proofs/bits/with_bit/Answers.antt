use Rattle.std.specs.Int.{w8}
use Rattle.std.proofs.lemmas.Nat.Bits.{bit_at_set_same, bit_at_set_other}
use Rattle.space_maps.proofs.bits.with_bit.Goals as goal

pub returns-clause-here : goal.returns-clause-here
returns-clause-here c = bit_at_set_same w8 c.args.byte c.args.bit c.requires

pub returns-clause-others : goal.returns-clause-others
returns-clause-others c = λ i ne. bit_at_set_other w8 c.args.byte c.args.bit c.requires i ne
