use Rattle.pool_threads.proofs.Looped.{no_works, sees_ending, works_on, works_until}
use Rattle.pool_threads.proofs.handle.Handle.work_until_stopped.Goals as goal

pub loop-init : goal.loop-init
loop-init g c = no_works _ c.args.self.now

pub returns-in-Some-ending-clause-worked : goal.returns-in-Some-ending-clause-worked
returns-in-Some-ending-clause-worked g c = works_until _ _ _ c.in-Some-ending.ensures.refused.0 c.loop.invariant c.serve-reply.ensures.served

pub returns-in-Some-ending-clause-refused : goal.returns-in-Some-ending-clause-refused
returns-in-Some-ending-clause-refused g c = sees_ending _ _ _ c.in-Some-ending.ensures.refused.0 c.loop.invariant c.serve-reply.ensures.served

pub loop-preserved : goal.loop-preserved
loop-preserved g c = works_on _ _ c.in-None-ending.ensures.passed c.loop.invariant c.serve-reply.ensures.served

pub loop-preserved-in-None-ending : goal.loop-preserved-in-None-ending
loop-preserved-in-None-ending g c = works_on _ _ c.in-None-ending.ensures.passed c.loop.invariant c.serve-reply.ensures.served

pub loop-preserved-in-None-ending-2 : goal.loop-preserved-in-None-ending-2
loop-preserved-in-None-ending-2 g c = works_on _ _ c.in-None-ending.ensures.passed c.loop.invariant c.serve-reply.ensures.served
