use Rattle.std.proofs.Common.{◌∙◌, ap, arith, rules}
use Rattle.space.specs.BitFlags.{flags_of}
use Rattle.space.proofs.BitFlags.{flags_of-ones, length-flags_of}
use Rattle.space.proofs.bit_flags.BitFlags.all_set.Goals as goal

pub returns-clause-set : goal.returns-clause-set
returns-clause-set c =
    ap (flags_of c.args.count) (c.in_ok-vec.ensures.items_if_clones_equal (search rules)) ∙ flags_of-ones c.args.count _ (omega (arith, c.div_ceil.ensures))

pub returns-clause-small : goal.returns-clause-small
returns-clause-small c =
    omega (arith, length-flags_of c.args.count c.in_ok-vec.field-0.items, c.if-count-ge-MOST.false)
