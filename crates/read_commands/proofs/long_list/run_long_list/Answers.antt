use Rattle.std.proofs.Common.{inl, inr, subst}
use Rattle.std.specs.Io.KnownBytes.{Appends}
use Rattle.read_commands.proofs.ScopedReads.{objects_written}
use Rattle.read_commands.specs.ObjectBlocks.{long_lines}
use Rattle.read_commands.proofs.Undone.{objects_found}
use Rattle.read_commands.proofs.long_list.run_long_list.Goals as goal

pub returns-in-Ok-write_long_lines-clause-listed : goal.returns-in-Ok-write_long_lines-clause-listed
returns-in-Ok-write_long_lines-clause-listed g c = λ zero.
    let before = g.W.Write.contents c.args.out.now in
    let after = g.W.Write.contents c.write_long_lines.new.out in
    objects_written g.D.SectorDevice c.args.scope long_lines c.in-Ok.objects.items before after
    (subst (λ l. Appends before after (long_lines l)) c.deref.ensures.value c.in-Ok-write_long_lines.ensures)
    c.args.opened.now c.in-Ok.ensures.mounted c.in-Ok.ensures.checked

pub returns-in-Err-clause-undone : goal.returns-in-Err-clause-undone
returns-in-Err-clause-undone g c = λ some. inl (c.in-Err.failure, c.in-Err.ensures.failed, c.report_failure.ensures.status)

pub returns-clause-undone : goal.returns-clause-undone
returns-clause-undone g c = λ some.
    inr (c.report_failure-in-Err-write_long_lines.ensures.status, objects_found g.D.SectorDevice c.args.opened.now c.args.scope c.in-Ok.objects.items c.in-Ok.ensures.mounted c.in-Ok.ensures.checked)
