use Rattle.scripts.proofs.CloseLines.{left_line}
use Rattle.scripts.proofs.Relations.{of_own}
use Rattle.scripts.specs.OwnPools.{IsPlannedOn}
use Rattle.scripts.proofs.own_clients.a_bad_line_leaves_the_device.Goals as goal

pub returns : goal.returns
returns c = left_line (of_own _) IsPlannedOn c.args.session.now c.run_line.new.session c.run_line.result c.run_line.ensures.bad
