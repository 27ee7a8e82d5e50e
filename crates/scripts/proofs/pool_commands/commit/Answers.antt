use Rattle.std.proofs.Common.{inl}
use Rattle.scripts.proofs.pool_commands.commit.Goals as goal

pub returns-in-Ok : goal.returns-in-Ok
returns-in-Ok g c = inl (rw c.in-Ok.ensures at c.step.ensures)
