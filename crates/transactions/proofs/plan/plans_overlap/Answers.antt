use Rattle.std.proofs.Common.{◌∙◌}
use Rattle.transactions.proofs.KeptRanges.{overlap_same}
use Rattle.transactions.proofs.plan.plans_overlap.Goals as goal

pub returns-clause-overlap : goal.returns-clause-overlap
returns-clause-overlap c = λ allowed other. c.ranges_overlap.ensures ∙ overlap_same c.args.plan.now c.args.other.now allowed other
