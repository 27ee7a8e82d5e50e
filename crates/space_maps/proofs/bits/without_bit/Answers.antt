use Rattle.std.specs.Int.{w8}
use Rattle.std.proofs.lemmas.Nat.Bits.{bit_at_clear_same, bit_at_clear_other}
use Rattle.space_maps.proofs.bits.without_bit.Goals as goal

pub returns-clause-here : goal.returns-clause-here
returns-clause-here c = bit_at_clear_same w8 c.args.byte c.args.bit c.requires

pub returns-clause-others : goal.returns-clause-others
returns-clause-others c = λ i low ne. bit_at_clear_other w8 c.args.byte c.args.bit c.requires i low ne
