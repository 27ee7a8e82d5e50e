use Rattle.std.proofs.Common.{◌+◌, ◌-◌, ◌∙◌, ap, arith, set, subst, sym}
use Rattle.transactions.proofs.RangeEnds.{AreRaised, raised_other, raised_same}
use Rattle.transactions.proofs.range_index.raise_ends.Goals as goal
use Rattle.transactions.proofs.range_index.raise_ends.Goals.{else-ranges-index, then-ranges-index}

pub loop-index-preserved : goal.loop-index-preserved
loop-index-preserved c =
    let ranges = c.args.ranges.now in
    let ends = c.loop-index.ends in
    let i = c.loop-index.index in
    elim c.if-ranges-index.branch [
      | then-ranges-index w ↦ subst (λ l. AreRaised ranges l (i + 1)) (sym (w.ends-is ∙ ap (set ends i) w.max.ensures)) (raised_same ranges ends (i - 1) i _ (omega arith) c.loop-index-test.true c.loop-index.invariant w.if-ranges-index.true)
      | else-ranges-index w ↦ subst (λ l. AreRaised ranges l (i + 1)) (sym w.ends-is) (raised_other ranges ends (i - 1) i _ (omega arith) c.loop-index-test.true c.loop-index.invariant c.requires.order w.if-ranges-index.false)
    ]
