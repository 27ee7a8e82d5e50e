use Rattle.throttle.proofs.DirtyCalls.{sum_of-at, canceled, sum-canceled, total-canceled}
use Rattle.throttle.proofs.dirty.Dirty.cancel.Goals as goal

pub overflow_sub-self : goal.overflow_sub-self
overflow_sub-self c = rw c.place.ensures.place (rw (sum_of-at c.self.inside c.self.invariant _ c.self.view_is c.args.group.0 c.requires.unsynced) at c.requires.charged)

pub returns-clause-canceled : goal.returns-clause-canceled
returns-clause-canceled c = rw c.place.ensures.place (canceled c.self.inside c.self.invariant _ c.self.view_is c.args.group.0 c.args.charge c.requires.unsynced)

pub returns-clause-sum : goal.returns-clause-sum
returns-clause-sum c = rw c.place.ensures.place (sum-canceled c.self.inside c.self.invariant _ c.self.view_is c.args.group.0 c.args.charge c.requires.unsynced c.requires.charged)

pub returns-clause-total : goal.returns-clause-total
returns-clause-total c = rw c.place.ensures.place (total-canceled c.self.inside c.self.invariant _ c.self.view_is c.args.group.0 c.args.charge c.requires.unsynced c.requires.charged)
