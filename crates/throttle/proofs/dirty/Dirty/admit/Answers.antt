use Rattle.std.proofs.Common.{rules, ◌∙◌, ◌+◌, ◌≤◌, sym}
use Rattle.throttle.proofs.DirtyCalls.{sum_at, admitted, total-admitted, sum-admitted, within-admitted, sum-within}
use Rattle.throttle.proofs.dirty.Dirty.admit.Goals as goal

pub returns-clause-admitted : goal.returns-clause-admitted
returns-clause-admitted c = rw c.place.ensures.place (admitted c.self.inside c.self.invariant _ c.self.view_is c.args.group.0 c.args.charge c.requires)

pub returns-clause-sum : goal.returns-clause-sum
returns-clause-sum c = rw c.place.ensures.place (sum-admitted c.self.inside c.self.invariant _ c.self.view_is c.args.group.0 c.args.charge c.requires)

pub returns-clause-total : goal.returns-clause-total
returns-clause-total c = rw c.place.ensures.place (total-admitted c.self.inside c.self.invariant _ c.self.view_is c.args.group.0 c.args.charge c.requires)

pub invariant_of-self : goal.invariant_of-self
invariant_of-self c = rw c.place.ensures.place (within-admitted c.self.inside c.self.invariant _ c.self.view_is c.args.group.0 c.args.charge c.requires (sym c.is_throttled.ensures ∙ c.if-is_throttled.false))

pub overflow_add-self : goal.overflow_add-self
overflow_add-self c =
    let fits : sum_at c.self.inside c.args.group.0 + c.args.charge ≤ c.self.inside.limit = sum-within c.self.inside c.self.invariant _ c.self.view_is c.args.group.0 c.args.charge c.requires (sym c.is_throttled.ensures ∙ c.if-is_throttled.false) in
    rw c.place.ensures.place (search (rules, fits))
