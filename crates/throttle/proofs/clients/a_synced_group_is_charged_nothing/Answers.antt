use Rattle.std.proofs.Common.{refl}
use Rattle.throttle.proofs.GroupSums.{get-removed}
use Rattle.throttle.proofs.clients.a_synced_group_is_charged_nothing.Goals as goal

pub prove-unreachable-requires : goal.prove-unreachable-requires
prove-unreachable-requires c = c.if-prove.true (rw (c.of.ensures, c.synced.ensures.synced, get-removed c.args.dirty.now.sums 9) refl)
