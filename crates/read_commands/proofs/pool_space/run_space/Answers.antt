use Rattle.std.proofs.Common.{inl, inr, subst}
use Rattle.std.specs.Io.KnownBytes.{Appends}
use Rattle.read_commands.proofs.PoolLines.{inspected_written}
use Rattle.read_commands.specs.Space.{pool_space_lines, space_lines}
use Rattle.read_commands.specs.declared.pool_space.Space.{Space}
use Rattle.read_commands.proofs.Undone.{whole_found}
use Rattle.read_commands.proofs.pool_space.run_space.Goals as goal

pub returns-in-Ok-write_space-clause-measured : goal.returns-in-Ok-write_space-clause-measured
returns-in-Ok-write_space-clause-measured g c = λ zero.
    let before = g.W.Write.contents c.args.out.now in
    let after = g.W.Write.contents c.write_space.new.out in
    inspected_written g.D.SectorDevice (pool_space_lines c.args.arguments.unit) c.in-Ok.inspected before after
    (subst (λ (s : Space). Appends before after (space_lines c.args.arguments.unit s)) c.space_of.ensures c.in-Ok-write_space.ensures)
    c.args.opened.now c.in-Ok.ensures.mounted c.in-Ok.ensures.agrees

pub returns-in-Err-clause-undone : goal.returns-in-Err-clause-undone
returns-in-Err-clause-undone g c = λ some. inl (c.in-Err.failure, c.in-Err.ensures.failed, c.report_failure.ensures.status)

pub returns-clause-undone : goal.returns-clause-undone
returns-clause-undone g c = λ some.
    inr (c.report_failure-in-Err-write_space.ensures.status, whole_found g.D.SectorDevice c.args.opened.now c.in-Ok.inspected c.in-Ok.ensures.mounted)
