use Rattle.space_maps.proofs.PayloadBits.{bit_in-put, bit_in-put_other}
use Rattle.space_maps.proofs.bits.set_bit.Goals as goal

pub returns-clause-here : goal.returns-clause-here
returns-clause-here c = bit_in-put c.args.payload.now c.args.index c.with_bit.result 1 c.requires.size c.requires.index c.with_bit.ensures.here

pub returns-clause-others : goal.returns-clause-others
returns-clause-others c = λ k ne.
    bit_in-put_other c.args.payload.now c.args.index k c.with_bit.result c.requires.size c.requires.index (λ i low apart. c.with_bit.ensures.others i apart) ne
