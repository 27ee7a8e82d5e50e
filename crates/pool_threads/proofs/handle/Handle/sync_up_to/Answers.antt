use Rattle.std.proofs.Common.{rules}
use Rattle.pool_threads.proofs.Tried.{no_turns}
use Rattle.pool_threads.proofs.Waited.{syncs_more, syncs_refused, syncs_to_end}
use Rattle.pool_threads.proofs.handle.Handle.sync_up_to.Goals as goal

pub loop-init : goal.loop-init
loop-init g c = no_turns _ c.args.self.now

pub returns-in-Some-Refused : goal.returns-in-Some-Refused
returns-in-Some-Refused g c = syncs_refused _ _ c.serve-reply.result.0 c.in-Some-Refused.error c.loop.invariant (search rules) c.serve-reply.ensures.served

pub returns-then-le : goal.returns-then-le
returns-then-le g c = syncs_to_end _ _ c.serve-reply.result.0 (search rules) c.loop.invariant c.serve-reply.ensures.served (search rules)

pub loop-preserved-after-is_none : goal.loop-preserved-after-is_none
loop-preserved-after-is_none g c = syncs_more _ _ c.serve-reply.result.0 (search rules) c.loop.invariant c.serve-reply.ensures.served

pub loop-preserved-after-is_none-2 : goal.loop-preserved-after-is_none-2
loop-preserved-after-is_none-2 g c = syncs_more _ _ c.serve-reply.result.0 (search rules) c.loop.invariant c.serve-reply.ensures.served

pub loop-preserved : goal.loop-preserved
loop-preserved g c = syncs_more _ _ c.serve-reply.result.0 (search rules) c.loop.invariant c.serve-reply.ensures.served
