use Rattle.pool_threads.proofs.Transacted.{ends_under}
use Rattle.pool_threads.proofs.TransactTurns.{ended_for_good}
use Rattle.pool_threads.proofs.one_turn.lock_and_commit.Goals as goal

pub returns-in-Ok-clause-made : goal.returns-in-Ok-clause-made
returns-in-Ok-clause-made g c = ends_under _ _ c.args.ranges.now c.args.plan.now c.args.ops _ _ _ _ c.in-Ok.tx c.commit_or_abort.result c.in-Ok.ensures.made c.commit_or_abort.ensures.made

pub returns-in-Ok-clause-for_good : goal.returns-in-Ok-clause-for_good
returns-in-Ok-clause-for_good g c = ended_for_good _ c.args.ranges.now c.in-Ok.tx c.args.ops c.commit_or_abort.result _ _ c.commit_or_abort.ensures.made
