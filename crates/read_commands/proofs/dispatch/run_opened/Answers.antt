use Rattle.read_commands.proofs.AskedUndone.{get_ended, named_get_ended}
use Rattle.read_commands.proofs.dispatch.run_opened.Goals as goal

pub returns-in-Get-clause-undone : goal.returns-in-Get-clause-undone
returns-in-Get-clause-undone g c = λ some.
    let run = c.run_get-status in
    get_ended g.D.SectorDevice c.args.opened run.result.1 run.result.0 _ _ c.args.command c.in-Get.arguments c.in-Get.scope c.in-Get.is (run.ensures.undone some)

pub returns-in-GetNamed-clause-undone : goal.returns-in-GetNamed-clause-undone
returns-in-GetNamed-clause-undone g c = λ some.
    let run = c.run_get_named-status in
    named_get_ended g.D.SectorDevice c.args.opened run.result.1 run.result.0 _ _ c.args.command c.in-GetNamed.arguments c.in-GetNamed.scope c.in-GetNamed.is (run.ensures.undone some)
