use Rattle.std.proofs.Common.{[], refl, rules}
use Rattle.pool_threads.proofs.Waited.{wait_refused, waited_on, waited_out}
use Rattle.pool_threads.proofs.handle.Handle.wait_for_flush.Goals as goal

pub loop-init : goal.loop-init
loop-init g c = record { rounds = []; waits = refl }

pub returns-in_err-wait_once : goal.returns-in_err-wait_once
returns-in_err-wait_once g c = wait_refused c.args.receipt c.wait_once.result c.loop.invariant c.wait_once.ensures c.from_residual.result _ (search rules) c.from_residual.ensures.1

pub returns-then-branch : goal.returns-then-branch
returns-then-branch g c = waited_out c.args.receipt c.wait_once.result c.loop.invariant c.wait_once.ensures (search rules)

pub loop-preserved : goal.loop-preserved
loop-preserved g c = waited_on c.args.receipt c.wait_once.result c.loop.invariant c.wait_once.ensures (search rules)
