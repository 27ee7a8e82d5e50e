use Rattle.std.proofs.Common.{sym, ◌∙◌}
use Rattle.base.specs.history.Plans.{number_range}
use Rattle.base.proofs.common.KeptLists.{any_map}
use Rattle.range_locks.specs.Locks.{blocks_own, grant_of}
use Rattle.range_locks.proofs.locks.RangeLocks.is_blocked_by_own.Goals as goal

pub returns : goal.returns
returns c = rw (← c.self.view_is) (c.any_own_blocks.ensures ∙ sym (any_map (blocks_own c.args.owner.0 (number_range c.args.range.now) c.args.mode) grant_of c.self.inside.held.entries))
