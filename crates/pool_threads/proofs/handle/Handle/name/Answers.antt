use Rattle.std.proofs.Math.Logic.{∥∥₁_map}
use Rattle.pool_threads.proofs.Answered.{made_between}
use Rattle.pool_threads.proofs.AnswersSeen.{name_is_told, names_are_seen}
use Rattle.pool_threads.proofs.handle.Handle.name.Goals as goal

pub unreachable-requires : goal.unreachable-requires
unreachable-requires g c = name_is_told _ c.in-Err.ensures

pub returns-clause-name : goal.returns-clause-name
returns-clause-name g c = ∥∥₁_map (made_between c.in-Ok.ensures) (names_are_seen _ _ _)
