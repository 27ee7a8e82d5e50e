use Rattle.inspections.specs.Refused.{IsInspectionRefused}
use Rattle.read_commands.proofs.Undone.{look_refused}
use Rattle.read_commands.proofs.show.inspect_opened.Goals as goal

pub returns-in-Err-inspect-clause-failed : goal.returns-in-Err-inspect-clause-failed
returns-in-Err-inspect-clause-failed g c = look_refused (IsInspectionRefused g.D.SectorDevice) _ _ _ c.in-Err-inspect.refusal _ c.in-Ok.is c.in-Err-inspect.ensures.refused c.of_pool.ensures.cause
