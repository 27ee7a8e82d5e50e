use Rattle.std.proofs.Common.{ap, inl, inr, refl, ◌∙◌}
use Rattle.read_commands.specs.Failures.{failure_status}
use Rattle.read_commands.proofs.CheckedAll.{all_written, written_or_same}
use Rattle.read_commands.proofs.check_all.run_check_all.Goals as goal

pub returns-in-Ok-write_found-clause-clean : goal.returns-in-Ok-write_found-clause-clean
returns-in-Ok-write_found-clause-clean g c = λ zero.
    all_written g.D.SectorDevice c.in-Ok.found.findings.items c.in-Ok.found.labels c.status.result (g.W.Write.contents c.args.out.now) (g.W.Write.contents c.write_found.new.out)
    c.in-Ok-write_found.ensures.written c.status.ensures c.args.opened.now c.in-Ok.ensures.found c.in-Ok.ensures.labels 0 zero

pub returns-in-Ok-write_found-clause-damaged : goal.returns-in-Ok-write_found-clause-damaged
returns-in-Ok-write_found-clause-damaged g c = λ one.
    written_or_same g.D.SectorDevice c.in-Ok.found.findings.items c.in-Ok.found.labels c.status.result (g.W.Write.contents c.args.out.now) (g.W.Write.contents c.write_found.new.out)
    c.in-Ok-write_found.ensures.written c.status.ensures c.args.opened.now c.in-Ok.ensures.found c.in-Ok.ensures.labels 1 one

pub returns-in-Err-clause-undone : goal.returns-in-Err-clause-undone
returns-in-Err-clause-undone g c = λ some. inl (inl (c.in-Err.failure, c.in-Err.ensures.failed, c.report_failure.ensures.status))

pub returns-in-Ok-write_found-clause-undone : goal.returns-in-Ok-write_found-clause-undone
returns-in-Ok-write_found-clause-undone g c = λ some.
    inr (all_written g.D.SectorDevice c.in-Ok.found.findings.items c.in-Ok.found.labels c.status.result (g.W.Write.contents c.args.out.now) (g.W.Write.contents c.write_found.new.out)
    c.in-Ok-write_found.ensures.written c.status.ensures c.args.opened.now c.in-Ok.ensures.found c.in-Ok.ensures.labels c.status.result refl)

pub returns-clause-undone : goal.returns-clause-undone
returns-clause-undone g c = λ some.
    inl (inr (c.report_failure-in-Err-write_found.ensures.status ∙ ap failure_status c.in-Err-write_found.ensures.failed, c.in-Ok.ensures.sized))
