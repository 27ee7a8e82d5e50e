use Rattle.std.proofs.Common.{false, true}
use Rattle.command_arguments.specs.declared.reports.ReportForm.TheVariants.{Json, Lines}
use Rattle.read_commands.proofs.AskedUndone.{check_ended}
use Rattle.read_commands.proofs.dispatch.check.Goals as goal

pub returns-in-false-Lines-clause-undone : goal.returns-in-false-Lines-clause-undone
returns-in-false-Lines-clause-undone g c = λ some.
    check_ended g.D.SectorDevice c.args.opened c.run_check.new.opened c.run_check.result _ _ c.args.arguments false Lines c.in-false-Lines.is-0 c.in-false-Lines.is-1 (c.run_check.ensures.undone some)

pub returns-in-true-Lines-clause-undone : goal.returns-in-true-Lines-clause-undone
returns-in-true-Lines-clause-undone g c = λ some.
    check_ended g.D.SectorDevice c.args.opened c.run_check_all.new.opened c.run_check_all.result _ _ c.args.arguments true Lines c.in-true-Lines.is-0 c.in-true-Lines.is-1 (c.run_check_all.ensures.undone some)

pub returns-in-false-Json-clause-undone : goal.returns-in-false-Json-clause-undone
returns-in-false-Json-clause-undone g c = λ some.
    check_ended g.D.SectorDevice c.args.opened c.run_json_check.new.opened c.run_json_check.result _ _ c.args.arguments false Json c.in-false-Json.is-0 c.in-false-Json.is-1 (c.run_json_check.ensures.undone some)

pub returns-clause-undone : goal.returns-clause-undone
returns-clause-undone g c = λ some.
    check_ended g.D.SectorDevice c.args.opened c.run_json_check_all.new.opened c.run_json_check_all.result _ _ c.args.arguments true Json c.in-true-Json.is-0 c.in-true-Json.is-1 (c.run_json_check_all.ensures.undone some)
