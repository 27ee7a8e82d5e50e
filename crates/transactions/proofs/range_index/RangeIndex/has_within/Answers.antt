use Rattle.std.proofs.Common.{◌∙◌, ap, arith, nat_le, sym}
use Rattle.std.proofs.lemmas.Bool.{le-ltb}
use Rattle.base.specs.declared.range.ObjectRange.{ObjectRange}
use Rattle.base.specs.history.Plans.{number_range}
use Rattle.transactions.proofs.RangeIndexes.{first_of_object, first_of_other, none_left, not_equal}
use Rattle.transactions.proofs.range_index.RangeIndex.has_within.Goals as goal

pub returns-then-index-range : goal.returns-then-index-range
returns-then-index-range c =
    let inside = c.self.inside in
    let before = rw c.deref.ensures.value at c.count_before-first.ensures in
    rw (← c.self.view_is)
    (ap (λ n. nat_le n c.args.range.now.range.high) c.index-then-index-range.ensures
    ∙ sym (first_of_object inside.ranges.items inside.least.items c.self.invariant.order c.self.invariant.least (number_range c.args.range.now) c.count_before-first.result before.within before.point
    c.index.result.now _ (omega (arith, c.if-first-len.true, c.len.ensures, inside.ranges.ok.0)) (ap (λ (x : ObjectRange). x.object.0) (sym c.index.ensures) ∙ c.if-index-range.true)))

pub returns-else-index-range : goal.returns-else-index-range
returns-else-index-range c =
    let inside = c.self.inside in
    let before = rw c.deref.ensures.value at c.count_before-first.ensures in
    rw (← c.self.view_is)
    (not_equal _ _ c.if-index-range.false
    ∙ sym (first_of_other inside.ranges.items inside.least.items c.self.invariant.order c.self.invariant.least (number_range c.args.range.now) c.count_before-first.result before.within before.point
    c.index.result.now (omega (arith, c.if-first-len.true, c.len.ensures, inside.ranges.ok.0)) (λ same. c.if-index-range.false (ap (λ (x : ObjectRange). x.object.0) c.index.ensures ∙ same))))

pub returns-else-first-len : goal.returns-else-first-len
returns-else-first-len c =
    let inside = c.self.inside in
    let before = rw c.deref.ensures.value at c.count_before-first.ensures in
    rw (← c.self.view_is)
    (le-ltb _ _ (omega (arith, c.if-first-len.false))
    ∙ sym (none_left inside.ranges.items inside.least.items c.self.invariant.order c.self.invariant.least (number_range c.args.range.now) c.count_before-first.result before.within before.point
    (omega (arith, c.if-first-len.false, c.len.ensures, inside.ranges.ok.0))))
