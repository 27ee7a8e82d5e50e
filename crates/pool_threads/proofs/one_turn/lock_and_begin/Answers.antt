use Rattle.pool_threads.proofs.Transacted.{begin_was_refused}
use Rattle.pool_threads.proofs.one_turn.lock_and_begin.Goals as goal

pub returns-in_err-tx-clause-made : goal.returns-in_err-tx-clause-made
returns-in_err-tx-clause-made g c =
    begin_was_refused _ _ c.args.ranges.now c.args.plan.now _ _ _ _ c.in_err-tx.field-0.0 c.from_residual-in_err-tx.result c.in_ok-lock_all.ensures.made c.in_err-tx.ensures.stepped c.from_residual-in_err-tx.ensures.1
