use Rattle.std.proofs.Common.{inl, inr, subst}
use Rattle.std.specs.Io.KnownBytes.{Appends}
use Rattle.read_commands.proofs.ScopedReads.{objects_written}
use Rattle.read_commands.specs.Json.{json_listed}
use Rattle.read_commands.proofs.Undone.{objects_found}
use Rattle.read_commands.proofs.json_reports.run_json_list.Goals as goal

pub returns-in-Ok-write_listed-clause-listed : goal.returns-in-Ok-write_listed-clause-listed
returns-in-Ok-write_listed-clause-listed g c = λ zero.
    let before = g.W.Write.contents c.args.out.now in
    let after = g.W.Write.contents c.write_listed.new.out in
    objects_written g.D.SectorDevice c.args.scope json_listed c.in-Ok.objects.items before after
    (subst (λ l. Appends before after (json_listed l)) c.deref.ensures.value c.in-Ok-write_listed.ensures)
    c.args.opened.now c.in-Ok.ensures.mounted c.in-Ok.ensures.checked

pub returns-in-Err-clause-undone : goal.returns-in-Err-clause-undone
returns-in-Err-clause-undone g c = λ some. inl (c.in-Err.failure, c.in-Err.ensures.failed, c.report_failure.ensures.status)

pub returns-clause-undone : goal.returns-clause-undone
returns-clause-undone g c = λ some.
    inr (c.report_failure-in-Err-write_listed.ensures.status, objects_found g.D.SectorDevice c.args.opened.now c.args.scope c.in-Ok.objects.items c.in-Ok.ensures.mounted c.in-Ok.ensures.checked)
