use Rattle.std.proofs.Common.{rules}
use Rattle.script_lines.proofs.PoolLines.{asks_its_pool}
use Rattle.script_lines.proofs.command.parse_device_line.Goals as goal

pub returns-in_ok-parse_pool_command-in_default-clause-command :
    goal.returns-in_ok-parse_pool_command-in_default-clause-command
returns-in_ok-parse_pool_command-in_default-clause-command c =
    record {
      fail = search rules;
      fail_read = search rules;
      pool = asks_its_pool c.args.words.now c.in_ok-parse_pool_command-in_default.field-0 c.in_ok-parse_pool_command-in_default.ensures.asked;
    }
