use Rattle.std.proofs.Math.Logic.{∥∥₁_map}
use Rattle.pool_threads.proofs.Answered.{made_between}
use Rattle.pool_threads.proofs.AnswersSeen.{status_is_told, statuses_are_seen}
use Rattle.pool_threads.proofs.handle.Handle.status.Goals as goal

pub unreachable-requires : goal.unreachable-requires
unreachable-requires g c = status_is_told _ c.in-Err.ensures

pub returns-clause-status : goal.returns-clause-status
returns-clause-status g c = ∥∥₁_map (made_between c.in-Ok.ensures) (statuses_are_seen _ _ _)
