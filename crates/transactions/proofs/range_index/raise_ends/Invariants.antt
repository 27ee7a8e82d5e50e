use Rattle.transactions.proofs.RangeEnds.{AreRaised}
use Rattle.transactions.proofs.range_index.raise_ends.Given as goal

abbrev pub invariant-loop-index : goal.invariant-loop-index
invariant-loop-index l = AreRaised l.ranges l.ends l.index
