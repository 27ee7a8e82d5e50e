use Rattle.std.proofs.Common.{rules}
use Rattle.std.specs.Prelude.{Err, Ok}
use Rattle.pool_threads.proofs.Waited.{found_durable, found_so, log_refused, synced_instead}
use Rattle.pool_threads.proofs.handle.Handle.lead.Goals as goal

pub returns-then-matches : goal.returns-then-matches
returns-then-matches g c = found_durable c.args.receipt c.write_log-reply.result.0 c.write_log-reply.result.1 c.write_log-reply.ensures (search rules)

pub returns-in_default : goal.returns-in_default
returns-in_default g c = found_so c.args.receipt c.write_log-reply.result.0 c.write_log-reply.result.1 c.write_log-reply.ensures (search rules)

pub returns-then-ne : goal.returns-then-ne
returns-then-ne g c = log_refused c.args.receipt c.write_log-reply.result.0 c.write_log-reply.result.1 c.write_log-reply.ensures c.in-Some-Refused.error (search rules) (λ is. search rules) (λ is. search rules)

pub returns-in-Ok : goal.returns-in-Ok
returns-in-Ok g c = synced_instead c.args.receipt c.write_log-reply.result.0 c.write_log-reply.result.1 c.write_log-reply.ensures c.in-Some-Refused.error (search rules) (λ is. search rules) (Ok tt) (search rules) c.in-Ok.ensures

pub returns : goal.returns
returns g c = synced_instead c.args.receipt c.write_log-reply.result.0 c.write_log-reply.result.1 c.write_log-reply.ensures c.in-Some-Refused.error (search rules) (λ is. search rules) (Err c.in-Err.error) (search rules) c.in-Err.ensures
