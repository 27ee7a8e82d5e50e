use Rattle.std.proofs.Common.{◌∙◌, arith}
use Rattle.pool_threads.proofs.Transacted.{one_more_lock, stops_at_lock}
use Rattle.pool_threads.proofs.one_turn.lock_all.Goals as goal

pub returns-in_err-id-clause-made : goal.returns-in_err-id-clause-made
returns-in_err-id-clause-made g c =
    stops_at_lock _ _ c.args.ranges.now c.loop-range.range-index _ c.loop-range.locks.items c.in_err-id.field-0.0 c.from_residual.result _ _ _ c.loop-range-test.true c.loop-range.invariant.1 c.in_err-id.ensures.stepped c.from_residual.ensures.1

pub loop-range-preserved : goal.loop-range-preserved
loop-range-preserved g c = (
  c.in_ok-id.ensures.explains,
  one_more_lock _ _ c.args.ranges.now c.loop-range.range-index _ c.loop-range.locks.items _ c.in_ok-id.id _ _ _ c.loop-range-test.true c.loop-range.invariant.1 c.in_ok-id.ensures.stepped c.push_reserved.ensures.items,
  omega (arith, c.push_reserved.ensures.len, c.loop-range.invariant.2),
  omega (arith, c.push_reserved.ensures.capacity, c.loop-range.invariant.3),
  c.push_reserved.ensures.capacity ∙ c.loop-range.invariant.4,
)
