use Rattle.std.proofs.Common.{rules, sym}
use Rattle.throttle.proofs.DirtyCalls.{sum_of-inside, sum_of-outside}
use Rattle.throttle.proofs.dirty.Dirty.of.Goals as goal

pub returns-then-contains : goal.returns-then-contains
returns-then-contains c = rw c.place.ensures.place (sym (sum_of-inside c.self.inside c.self.invariant _ c.self.view_is c.args.group.0 (search rules)))

pub returns-else-contains : goal.returns-else-contains
returns-else-contains c = sym (sum_of-outside c.self.inside c.self.invariant _ c.self.view_is c.args.group.0 (search rules))
