use Rattle.std.proofs.Common.{inl, inr}
use Rattle.read_commands.specs.Json.{json_shown}
use Rattle.read_commands.proofs.PoolLines.{inspected_written}
use Rattle.read_commands.proofs.Undone.{whole_found}
use Rattle.read_commands.proofs.json_reports.run_json_show.Goals as goal

pub returns-in-Ok-write_shown-clause-shown : goal.returns-in-Ok-write_shown-clause-shown
returns-in-Ok-write_shown-clause-shown g c = λ zero.
    inspected_written g.D.SectorDevice json_shown c.in-Ok.inspected _ _ c.in-Ok-write_shown.ensures
    c.args.opened.now c.in-Ok.ensures.mounted c.in-Ok.ensures.agrees

pub returns-in-Err-clause-undone : goal.returns-in-Err-clause-undone
returns-in-Err-clause-undone g c = λ some. inl (c.in-Err.failure, c.in-Err.ensures.failed, c.report_failure.ensures.status)

pub returns-clause-undone : goal.returns-clause-undone
returns-clause-undone g c = λ some.
    inr (c.report_failure-in-Err-write_shown.ensures.status, whole_found g.D.SectorDevice c.args.opened.now c.in-Ok.inspected c.in-Ok.ensures.mounted)
