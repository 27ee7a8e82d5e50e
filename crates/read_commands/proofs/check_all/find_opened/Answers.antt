use Rattle.read_commands.specs.Undone.{IsCheckRefused}
use Rattle.read_commands.proofs.Undone.{look_refused}
use Rattle.read_commands.proofs.check_all.find_opened.Goals as goal

pub returns-in-Err-find_all-clause-failed : goal.returns-in-Err-find_all-clause-failed
returns-in-Err-find_all-clause-failed g c = look_refused (IsCheckRefused g.D.SectorDevice) _ _ _ c.in-Err-find_all.refusal _ c.in-Ok.is c.in-Err-find_all.ensures.refused c.of_pool.ensures.cause
