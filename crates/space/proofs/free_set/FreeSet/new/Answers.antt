use Rattle.std.proofs.Common.{sym, arith}
use Rattle.space.proofs.Counts.{len-all}
use Rattle.space.proofs.Flags.{all_free}
use Rattle.space.proofs.Hints.{hint_of_all}
use Rattle.space.proofs.free_set.FreeSet.new.Goals as goal

pub invariant_of-result : goal.invariant_of-result
invariant_of-result c = record {
  small = c.in_ok-all_set.ensures.small;
  count = sym (len-all c.args.blocks c.in_ok-all_set.field-0 c.in_ok-all_set.ensures.set);
  hint = hint_of_all c.args.blocks c.in_ok-all_set.field-0 c.in_ok-all_set.ensures.set;
  taken = omega arith;
  reserved = omega arith;
}

pub returns-clause-all : goal.returns-clause-all
returns-clause-all c = all_free c.args.blocks c.in_ok-all_set.field-0 c.in_ok-all_set.ensures.set
