use Rattle.std.specs.FinMap.{get-empty}
use Rattle.throttle.proofs.clients.a_new_pool_is_charged_nothing.Goals as goal

pub prove-unreachable-requires-2 : goal.prove-unreachable-requires-2
prove-unreachable-requires-2 c = c.if-prove-2.true (rw (c.total.ensures.total, c.new-dirty.ensures) (simp get-empty))
