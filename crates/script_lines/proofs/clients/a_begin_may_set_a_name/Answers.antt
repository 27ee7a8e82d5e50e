use Rattle.script_lines.proofs.GoodLines.{begin_read}
use Rattle.script_lines.proofs.clients.a_begin_may_set_a_name.Goals as goal

pub returns : goal.returns
returns c = begin_read c.parse_command.result c.parse_command.ensures
