use Rattle.read_commands.proofs.CheckedAll.{next_line}
use Rattle.read_commands.specs.declared.checks.Finding.TheVariants.{Clean}
use Rattle.read_commands.proofs.check_all.write_findings.Goals as goal

pub loop-finding-preserved : goal.loop-finding-preserved
loop-finding-preserved g c =
    let (front, written, left) = c.loop-finding.invariant in
    next_line c.args.findings.now c.loop-finding.finding-index (Clean (record { 0 = 0 }) 0) (g.W.Write.contents c.args.out.now) (g.W.Write.contents c.loop-finding.out)
    (g.W.Write.contents c.writeln.new.self) front c.loop-finding-test.true written left c.in-Ok.ensures.bytes
