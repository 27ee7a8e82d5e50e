use Rattle.throttle.proofs.DirtyCalls.{synced_is, total-synced}
use Rattle.throttle.proofs.dirty.Dirty.synced.Goals as goal

pub returns-clause-synced : goal.returns-clause-synced
returns-clause-synced c = synced_is c.self.inside c.self.invariant _ c.self.view_is c.args.group c.requires

pub returns-clause-total : goal.returns-clause-total
returns-clause-total c = total-synced c.self.inside c.self.invariant _ c.self.view_is c.args.group c.requires
