use Rattle.std.proofs.Common.{inl, inr}
use Rattle.pool_threads.proofs.CountedTries.{at_the_end, each_err, no_turn_yet, one_turn_more, within}
use Rattle.pool_threads.proofs.Firsts.{if_err}
use Rattle.pool_threads.proofs.InTime.{made_at_last, refused_again, waited_while_not}
use Rattle.pool_threads.proofs.Tried.{no_turns}
use Rattle.pool_threads.proofs.handle.Handle.retry_within.Goals as goal

pub loop-init : goal.loop-init
loop-init g c = (no_turns _ c.args.self.now, no_turn_yet c.args.self.now)

pub loop-preserved : goal.loop-preserved
loop-preserved g c = (
  refused_again (g.C.PoolCall.step c.args.call) g.C.RetriedCall.retried (g.C.RetriedCall.is_in_vain c.args.call) _ c.try_call-answer.result.0 (c.try_call-answer.ensures.again c.if-not-may_pass.false) (c.try_call-answer.ensures.in_time c.if-not-may_pass.false) c.loop.invariant.0 c.try_call-answer.ensures.made,
  one_turn_more c.loop.counter c.args.self.now c.loop.invariant.1 c.try_call-answer.ensures.made,
)

pub returns-then-not-may_pass-clause-made : goal.returns-then-not-may_pass-clause-made
returns-then-not-may_pass-clause-made g c = made_at_last (g.C.PoolCall.step c.args.call) g.C.RetriedCall.retried (g.C.RetriedCall.is_in_vain c.args.call) c.loop.invariant.0 c.try_call-answer.ensures.made

pub returns-then-not-may_pass-clause-in_time : goal.returns-then-not-may_pass-clause-in_time
returns-then-not-may_pass-clause-in_time g c = waited_while_not (g.C.PoolCall.step c.args.call) g.C.RetriedCall.retried (g.C.RetriedCall.is_in_vain c.args.call) c.loop.invariant.0 c.try_call-answer.ensures.made

pub returns-then-not-may_pass-clause-limited : goal.returns-then-not-may_pass-clause-limited
returns-then-not-may_pass-clause-limited g c = within c.loop.counter c.args.self.now c.loop.invariant.1 c.try_call-answer.ensures.made c.args.naps c.loop.auto.counter-end

pub returns-then-not-may_pass-clause-patient : goal.returns-then-not-may_pass-clause-patient
returns-then-not-may_pass-clause-patient g c = if_err _ _ c.try_call-answer.result.0 (c.try_call-answer.ensures.for_good c.if-not-may_pass.true) (λ e vain again. inl (vain again))

pub returns-clause-made : goal.returns-clause-made
returns-clause-made g c = made_at_last (g.C.PoolCall.step c.args.call) g.C.RetriedCall.retried (g.C.RetriedCall.is_in_vain c.args.call) c.loop.invariant.0 c.ask.ensures

pub returns-clause-in_time : goal.returns-clause-in_time
returns-clause-in_time g c = waited_while_not (g.C.PoolCall.step c.args.call) g.C.RetriedCall.retried (g.C.RetriedCall.is_in_vain c.args.call) c.loop.invariant.0 c.ask.ensures

pub returns-clause-limited : goal.returns-clause-limited
returns-clause-limited g c = within c.loop.counter c.args.self.now c.loop.invariant.1 c.ask.ensures c.args.naps c.loop.auto.counter-end

pub returns-clause-patient : goal.returns-clause-patient
returns-clause-patient g c = each_err _ c.ask.result (λ e again. inr (at_the_end c.loop.counter c.args.self.now c.loop.invariant.1 c.ask.ensures c.args.naps c.loop.auto.counter-end c.loop-test.false))
