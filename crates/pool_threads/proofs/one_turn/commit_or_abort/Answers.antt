use Rattle.pool_threads.proofs.Transacted.{was_given_up}
use Rattle.pool_threads.proofs.one_turn.commit_or_abort.Goals as goal

pub returns-then-is_err-clause-made : goal.returns-then-is_err-clause-made
returns-then-is_err-clause-made g c =
    was_given_up _ c.args.tx c.args.ops _ _ _ c.step_noted-committed.result c.step_noted.result c.if-is_err.ensures.value c.step_noted-committed.ensures.stepped c.step_noted.ensures.stepped
