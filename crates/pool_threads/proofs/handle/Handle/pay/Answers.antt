use Rattle.pool_threads.proofs.TransactLoops.{payment_was_refused, was_paid}
use Rattle.pool_threads.proofs.handle.Handle.pay.Goals as goal

pub returns-in-Some : goal.returns-in-Some
returns-in-Some g c = payment_was_refused c.args.moment c.serve_open_group-reply.result _ _ c.in-Some.error c.in-Some.ensures.refused c.serve_open_group-reply.ensures

pub returns : goal.returns
returns g c = was_paid c.args.moment c.serve_open_group-reply.result _ _ c.in-None.ensures.passed c.serve_open_group-reply.ensures
