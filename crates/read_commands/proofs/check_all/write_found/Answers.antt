use Rattle.std.proofs.Common.{List, subst}
use Rattle.std.proofs.KnownBytes.{Appends-trans}
use Rattle.std.proofs.lemmas.Result.{on_ok_weaker}
use Rattle.std.specs.Io.KnownBytes.{Appends}
use Rattle.read_commands.specs.FoundDamages.{finding_lines}
use Rattle.read_commands.specs.FoundLabels.{label_lines}
use Rattle.read_commands.specs.declared.checks.Finding.{Finding}
use Rattle.read_commands.proofs.check_all.write_found.Goals as goal

pub returns-clause-written : goal.returns-clause-written
returns-clause-written g c =
    let before = g.W.Write.contents c.args.out.now in
    let between = g.W.Write.contents c.write_findings.new.out in
    let after = g.W.Write.contents c.write_states.new.out in
    let found = c.args.found.now in
    on_ok_weaker c.write_states.result
    (λ lines. Appends-trans before between after (finding_lines found.findings.items) (label_lines found.labels)
    (subst (λ (l : List Finding). Appends before between (finding_lines l)) c.deref.ensures.value c.in-Ok.ensures.written) lines)
    c.write_states.ensures.written
