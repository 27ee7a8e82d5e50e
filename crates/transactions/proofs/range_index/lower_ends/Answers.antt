use Rattle.std.proofs.Common.{◌+◌, ◌-◌, ◌≡◌, arith, subst}
use Rattle.transactions.proofs.RangeEnds.{AreLowered, lowered_other}
use Rattle.transactions.proofs.range_index.lower_ends.Goals as goal

pub loop-index-preserved : goal.loop-index-preserved
loop-index-preserved c =
    let i = c.loop-index.index - 1 in
    let one : c.loop-index.index ≡ i + 1 = omega (arith, c.loop-index-test.true) in
    lowered_other c.args.ranges.now c.loop-index.ends (i - 1) i _ (omega (arith, c.loop-index-test.true)) (omega (arith, c.loop-index-test.true, c.loop-index.auto.index))
    (subst (AreLowered c.args.ranges.now c.loop-index.ends) one c.loop-index.invariant) c.requires.order c.if-ranges-index.false
