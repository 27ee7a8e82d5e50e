use Rattle.std.proofs.Common.{rules, ◌≡◌, Ok, subst}
use Rattle.script_lines.specs.Commands.{ReadsLine}
use Rattle.scripts.proofs.BadLines.{tells_bad_line}
use Rattle.scripts.proofs.script.run_line.Goals as goal

pub returns-in_err-run-in-Ok-parse_command-clause-bad :
    goal.returns-in_err-run-in-Ok-parse_command-clause-bad
returns-in_err-run-in-Ok-parse_command-clause-bad g c =
    let asked = c.in-Ok-parse_command.command in
    let was : c.parse_command.result ≡ Ok asked = search rules in
    let text : c.in-Ok.text.now ≡ c.args.line.now = search rules in
    tells_bad_line g.S.CommandRunner.runs c.args.line.now asked c.args.session.now c.run.new.self c.in_err-run-in-Ok-parse_command.field-0.0 c.from_residual.result
    (subst (λ t. ReadsLine t (Ok asked)) text (subst (λ r. ReadsLine c.in-Ok.text.now r) was c.parse_command.ensures))
    c.in_err-run-in-Ok-parse_command.ensures
