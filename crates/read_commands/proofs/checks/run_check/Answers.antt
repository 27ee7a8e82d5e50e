use Rattle.std.proofs.Common.{inl, inr, refl}
use Rattle.std.proofs.lemmas.Result.{IfOk-weaker}
use Rattle.read_commands.proofs.Findings.{finding_written}
use Rattle.read_commands.proofs.checks.run_check.Goals as goal

pub returns-in-Ok-writeln-clause-clean : goal.returns-in-Ok-writeln-clause-clean
returns-in-Ok-writeln-clause-clean g c = λ zero.
    finding_written g.D.SectorDevice c.args.opened.now c.in-Ok.finding c.status.result 0 _ _ c.in-Ok-writeln.ensures.bytes c.status.ensures c.in-Ok.ensures.found zero

pub returns-in-Ok-writeln-clause-damaged : goal.returns-in-Ok-writeln-clause-damaged
returns-in-Ok-writeln-clause-damaged g c = λ one. IfOk-weaker c.args.opened.now _ _ (λ device written. inr written)
    (finding_written g.D.SectorDevice c.args.opened.now c.in-Ok.finding c.status.result 1 _ _ c.in-Ok-writeln.ensures.bytes c.status.ensures c.in-Ok.ensures.found one)

pub returns-in-Err-clause-undone : goal.returns-in-Err-clause-undone
returns-in-Err-clause-undone g c = λ some. inl (inl (c.in-Err.failure, c.in-Err.ensures.failed, c.report_failure.ensures.status))

pub returns-in-Ok-writeln-clause-undone : goal.returns-in-Ok-writeln-clause-undone
returns-in-Ok-writeln-clause-undone g c = λ some.
    inr (finding_written g.D.SectorDevice c.args.opened.now c.in-Ok.finding c.status.result c.status.result _ _ c.in-Ok-writeln.ensures.bytes c.status.ensures c.in-Ok.ensures.found refl)

pub returns-in-Err-writeln-clause-undone : goal.returns-in-Err-writeln-clause-undone
returns-in-Err-writeln-clause-undone g c = λ some. inl (inr (c.report_failure-in-Err-writeln.ensures.status, c.in-Ok.ensures.sized))
