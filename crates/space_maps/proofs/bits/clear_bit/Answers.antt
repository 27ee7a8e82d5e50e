use Rattle.space_maps.proofs.PayloadBits.{bit_in-put, bit_in-put_other}
use Rattle.space_maps.proofs.bits.clear_bit.Goals as goal

pub returns-clause-here : goal.returns-clause-here
returns-clause-here c = bit_in-put c.args.payload.now c.args.index c.without_bit.result 0 c.requires.size c.requires.index c.without_bit.ensures.here

pub returns-clause-others : goal.returns-clause-others
returns-clause-others c = λ k ne.
    bit_in-put_other c.args.payload.now c.args.index k c.without_bit.result c.requires.size c.requires.index (λ i low apart. c.without_bit.ensures.others i low apart) ne
