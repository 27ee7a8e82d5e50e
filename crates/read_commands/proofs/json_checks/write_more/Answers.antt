use Rattle.read_commands.specs.declared.checks.Finding.TheVariants.{Clean}
use Rattle.read_commands.specs.Json.{json_more}
use Rattle.read_commands.proofs.WrittenLists.{next_text}
use Rattle.read_commands.proofs.json_checks.write_more.Goals as goal

pub loop-finding-preserved : goal.loop-finding-preserved
loop-finding-preserved g c =
    let (front, written, left) = c.loop-finding.invariant in
    next_text json_more c.args.findings.now c.loop-finding.finding-index (Clean (record { 0 = 0 }) 0) (g.W.Write.contents c.args.out.now) (g.W.Write.contents c.loop-finding.out)
    (g.W.Write.contents c.write.new.self) front c.loop-finding-test.true written left c.in_ok-write.ensures.bytes
