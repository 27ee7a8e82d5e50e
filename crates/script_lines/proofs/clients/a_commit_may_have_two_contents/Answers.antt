use Rattle.script_lines.proofs.GoodLines.{commit_read}
use Rattle.script_lines.proofs.clients.a_commit_may_have_two_contents.Goals as goal

pub returns : goal.returns
returns c = commit_read c.parse_command.result c.parse_command.ensures
