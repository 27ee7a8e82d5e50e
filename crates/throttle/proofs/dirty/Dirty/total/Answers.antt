use Rattle.std.proofs.Common.{sym}
use Rattle.throttle.proofs.ThreeSums.{total_of-three, are_within_limit}
use Rattle.throttle.proofs.dirty.Dirty.total.Goals as goal

pub returns-clause-total : goal.returns-clause-total
returns-clause-total c = rw (← c.self.view_is) (sym (total_of-three c.self.inside c.self.invariant.three))

pub returns-clause-within : goal.returns-clause-within
returns-clause-within c = rw (← c.self.view_is) (are_within_limit c.self.inside c.self.invariant.three c.self.invariant.within)
