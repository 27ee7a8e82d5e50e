use Rattle.std.proofs.Math.Logic.{∥∥₁_map}
use Rattle.pool_threads.proofs.Firsts.{if_ok}
use Rattle.pool_threads.proofs.FsyncedAll.{seen_is_durable}
use Rattle.pool_threads_clients.proofs.waits.a_wait_for_all_leaves_each_earlier_commit_durable.Goals as goal

pub returns-clause-first : goal.returns-clause-first
returns-clause-first g c = if_ok _ _ c.fsync_all.result c.fsync_all.ensures.durable (λ done l. (l.took, l.left, l.later, l.turns, l.durable))

pub returns-clause-seen : goal.returns-clause-seen
returns-clause-seen g c = if_ok _ _ c.fsync_all.result c.fsync_all.ensures.durable (λ done l. ∥∥₁_map (seen_is_durable _ _ l) (λ all e. all 3 e))
