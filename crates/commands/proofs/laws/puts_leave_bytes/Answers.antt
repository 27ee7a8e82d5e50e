use Rattle.commands.proofs.PutBytes.{puts_leave_bytes}
use Rattle.commands.proofs.laws.puts_leave_bytes.Goals as goal

pub returns : goal.returns
returns c = puts_leave_bytes
