use Rattle.std.proofs.Common.{arith, rules, subst}
use Rattle.std.proofs.lemmas.Grind.{common_steps}
use Rattle.script_lines.specs.Copies.{AreContents}
use Rattle.script_lines.proofs.command.parse_pool_command.Goals as goal

pub returns-in-commit-clause-asked : goal.returns-in-commit-clause-asked
returns-in-commit-clause-asked c =
    record {
      commit = grind (arith, common_steps);
      commit_read = λ begins number contents. c.parse_commit.ensures.refused number (subst (λ ws. AreContents ws) (grind (arith, common_steps)) contents);
      start = search rules;
      finish = search rules;
      sync = search rules;
      step = search rules;
    }
