use Rattle.std.proofs.Common.{List, subst}
use Rattle.std.proofs.KnownBytes.{Appends-trans}
use Rattle.std.proofs.lemmas.Result.{on_ok_weaker}
use Rattle.std.specs.Io.KnownBytes.{Appends}
use Rattle.read_commands.specs.declared.checks.Finding.{Finding}
use Rattle.read_commands.specs.Json.{json_findings, json_labels}
use Rattle.read_commands.proofs.json_checks.write_found.Goals as goal

pub returns : goal.returns
returns g c =
    let before = g.W.Write.contents c.args.out.now in
    let between = g.W.Write.contents c.write_findings.new.out in
    let after = g.W.Write.contents c.write_labels.new.out in
    let found = c.args.found.now in
    on_ok_weaker c.write_labels.result
    (λ labels. Appends-trans before between after (json_findings found.findings.items) (json_labels found.labels)
    (subst (λ (l : List Finding). Appends before between (json_findings l)) c.deref.ensures.value c.in_ok-write_findings.ensures) labels)
    c.write_labels.ensures
