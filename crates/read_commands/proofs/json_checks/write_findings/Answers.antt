use Rattle.std.proofs.Common.{List, subst, sym}
use Rattle.std.specs.Io.KnownBytes.{Appends}
use Rattle.std.specs.Prelude.{OnOk}
use Rattle.read_commands.specs.declared.checks.Finding.{Finding}
use Rattle.read_commands.specs.Json.{json_findings}
use Rattle.read_commands.proofs.json_checks.write_findings.Goals as goal

pub returns : goal.returns
returns g c =
    subst (λ (l : List Finding). OnOk c.write_state.result (Appends (g.W.Write.contents c.args.out.now) (g.W.Write.contents c.write_state.new.out) (json_findings l)))
    (sym c.in-Some.ensures.cases.0) c.write_state.ensures
