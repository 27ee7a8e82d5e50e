use Rattle.std.proofs.Common.{◌∙◌, ap, arith, nat_lt, sym}
use Rattle.base.specs.declared.range.ObjectRange.{ObjectRange}
use Rattle.base.specs.history.Plans.{number_range}
use Rattle.transactions.proofs.RangeIndexes.{last_of_object, last_of_other, none_begun, not_equal}
use Rattle.transactions.proofs.range_index.RangeIndex.overlaps.Goals as goal

pub returns-then-index-range : goal.returns-then-index-range
returns-then-index-range c =
    let inside = c.self.inside in
    let before = rw c.deref.ensures.value at c.count_before-begun.ensures in
    rw (← c.self.view_is)
    (ap (nat_lt c.args.range.now.range.low) c.index-then-index-range.ensures
    ∙ sym (last_of_object inside.ranges.items inside.highest.items c.self.invariant.order c.self.invariant.highest (number_range c.args.range.now) c.count_before-begun.result before.within before.point
    c.in-Some.last c.index.result.now _ (omega (arith, c.in-Some.ensures)) (ap (λ (x : ObjectRange). x.object.0) (sym c.index.ensures) ∙ c.if-index-range.true)))

pub returns-else-index-range : goal.returns-else-index-range
returns-else-index-range c =
    let inside = c.self.inside in
    let before = rw c.deref.ensures.value at c.count_before-begun.ensures in
    rw (← c.self.view_is)
    (not_equal _ _ c.if-index-range.false
    ∙ sym (last_of_other inside.ranges.items inside.highest.items c.self.invariant.order c.self.invariant.highest (number_range c.args.range.now) c.count_before-begun.result before.within before.point
    c.in-Some.last c.index.result.now (omega (arith, c.in-Some.ensures)) (λ same. c.if-index-range.false (ap (λ (x : ObjectRange). x.object.0) c.index.ensures ∙ same))))

pub returns-in-None : goal.returns-in-None
returns-in-None c =
    let inside = c.self.inside in
    let before = rw c.deref.ensures.value at c.count_before-begun.ensures in
    rw (← c.self.view_is)
    (sym (none_begun inside.ranges.items inside.highest.items c.self.invariant.order c.self.invariant.highest (number_range c.args.range.now) c.count_before-begun.result before.within before.point
    (omega (arith, c.in-None.ensures))))
