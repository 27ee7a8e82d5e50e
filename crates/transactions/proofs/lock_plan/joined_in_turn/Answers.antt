use Rattle.std.proofs.Common.{◌∙◌, arith}
use Rattle.base.specs.declared.operation.Shape.TheVariants.{Create}
use Rattle.transactions.proofs.LockPlans.{all_shapes_added, one_more_range}
use Rattle.transactions.proofs.lock_plan.joined_in_turn.Goals as goal

pub loop-shape-preserved : goal.loop-shape-preserved
loop-shape-preserved c = (
  one_more_range c.loop-shape.shape-index c.args.plan.now (Create record { 0 = 0 }) c.loop-shape.ranges.items _ c.range_of.result c.loop-shape-test.true c.loop-shape.invariant.0 c.range_of.ensures.kept
      c.add_range.ensures.added,
  omega (arith, c.add_range.ensures.length, c.loop-shape.invariant.1),
  omega (arith, c.add_range.ensures.capacity, c.loop-shape.invariant.2),
)

pub returns : goal.returns
returns c = c.loop-shape.invariant.0 ∙ all_shapes_added c.loop-shape.shape-index c.args.plan.now c.loop-shape-test.false
