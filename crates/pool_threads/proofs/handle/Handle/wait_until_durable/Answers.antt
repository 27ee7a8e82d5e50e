use Rattle.std.proofs.Common.{rules}
use Rattle.pool_threads.proofs.Waited.{look_and_wait, look_durable, look_refused}
use Rattle.pool_threads.proofs.handle.Handle.wait_until_durable.Goals as goal

pub returns-in_err-check_receipt : goal.returns-in_err-check_receipt
returns-in_err-check_receipt g c = look_refused c.args.receipt c.check_receipt.result c.check_receipt.ensures c.from_residual.result _ (search rules) c.from_residual.ensures.1

pub returns-then-branch : goal.returns-then-branch
returns-then-branch g c = look_durable c.args.receipt c.check_receipt.result c.check_receipt.ensures (search rules)

pub returns : goal.returns
returns g c = look_and_wait c.args.receipt c.check_receipt.result c.check_receipt.ensures c.wait_for_flush.result (search rules) c.wait_for_flush.ensures
