use Rattle.std.proofs.Common.{refl, arith, rules}
use Rattle.space.proofs.BitFlags.{lowest_left, no_one_left}
use Rattle.space.proofs.bit_flags.lowest_one.Goals as goal

pub returns-then-left-eq0-clause-none : goal.returns-then-left-eq0-clause-none
returns-then-left-eq0-clause-none c = no_one_left c.args.word c.args.first c.requires c.if-left-eq0.true

pub returns-clause-found : goal.returns-clause-found
returns-clause-found c = lowest_left c.args.word c.args.first _ c.requires refl (omega (arith, c.if-left-eq0.false)) (search rules)
