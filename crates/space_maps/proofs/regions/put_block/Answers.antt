use Rattle.std.proofs.Common.{◌+◌, ap, sym, cond}
use Rattle.std.proofs.lemmas.Bool.{ne_eqb}
use Rattle.base.specs.formats.Geometry.{block_address}
use Rattle.space_maps.specs.Nodes.{bit_in}
use Rattle.space_maps.proofs.regions.put_block.Goals as goal

pub returns-in-None-clause-bits : goal.returns-in-None-clause-bits
returns-in-None-clause-bits c = λ k low.
    ap (λ b. cond b c.args.value (bit_in c.args.payload.now k)) (sym (ne_eqb (block_address (c.args.first + k)) c.args.address (c.in-None.ensures.none k low)))
