use Rattle.std.proofs.Common.{map}
use Rattle.base.specs.history.Plans.{shape_of}
use Rattle.transactions.proofs.SamePlans.{plan_test}
use Rattle.transactions.proofs.plan.is_in_plan.Goals as goal

pub returns-clause-same : goal.returns-clause-same
returns-clause-same c = plan_test c.have_shapes.result (map shape_of c.args.ops.now) c.args.plan.now c.have_shapes.ensures
