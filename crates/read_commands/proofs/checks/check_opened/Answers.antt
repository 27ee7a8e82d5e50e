use Rattle.read_commands.specs.Undone.{IsCheckRefused}
use Rattle.read_commands.proofs.Undone.{look_refused}
use Rattle.read_commands.proofs.checks.check_opened.Goals as goal

pub returns-in-Err-check_pool-clause-failed : goal.returns-in-Err-check_pool-clause-failed
returns-in-Err-check_pool-clause-failed g c = look_refused (IsCheckRefused g.D.SectorDevice) _ _ _ c.in-Err-check_pool.refusal _ c.in-Ok.is c.in-Err-check_pool.ensures.refused c.of_pool.ensures.cause
