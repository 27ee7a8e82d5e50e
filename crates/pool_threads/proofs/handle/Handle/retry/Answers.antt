use Rattle.pool_threads.proofs.InTime.{made_at_last, refused_again, waited_while_not}
use Rattle.pool_threads.proofs.Tried.{no_turns}
use Rattle.pool_threads.proofs.handle.Handle.retry.Goals as goal

pub loop-init : goal.loop-init
loop-init g c = no_turns _ c.args.self.now

pub loop-preserved : goal.loop-preserved
loop-preserved g c =
    let tried = c.try_call-answer.ensures in
    refused_again (g.C.PoolCall.step c.args.call) g.C.RetriedCall.retried (g.C.RetriedCall.is_in_vain c.args.call) _ c.try_call-answer.result.0 (tried.again c.if-not-may_pass.false) (tried.in_time c.if-not-may_pass.false) c.loop.invariant tried.made

pub returns-then-not-may_pass-clause-made : goal.returns-then-not-may_pass-clause-made
returns-then-not-may_pass-clause-made g c = made_at_last (g.C.PoolCall.step c.args.call) g.C.RetriedCall.retried (g.C.RetriedCall.is_in_vain c.args.call) c.loop.invariant c.try_call-answer.ensures.made

pub returns-then-not-may_pass-clause-in_time : goal.returns-then-not-may_pass-clause-in_time
returns-then-not-may_pass-clause-in_time g c = waited_while_not (g.C.PoolCall.step c.args.call) g.C.RetriedCall.retried (g.C.RetriedCall.is_in_vain c.args.call) c.loop.invariant c.try_call-answer.ensures.made

pub returns-then-not-may_pass-clause-for_good : goal.returns-then-not-may_pass-clause-for_good
returns-then-not-may_pass-clause-for_good g c = c.try_call-answer.ensures.for_good c.if-not-may_pass.true
