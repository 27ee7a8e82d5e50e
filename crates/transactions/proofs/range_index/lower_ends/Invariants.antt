use Rattle.transactions.proofs.RangeEnds.{AreLowered}
use Rattle.transactions.proofs.range_index.lower_ends.Given as goal

abbrev pub invariant-loop-index : goal.invariant-loop-index
invariant-loop-index l = AreLowered l.ranges l.ends l.index
