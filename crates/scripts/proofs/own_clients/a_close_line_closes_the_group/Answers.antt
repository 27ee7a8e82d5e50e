use Rattle.scripts.proofs.CloseLines.{closed_line, good_line}
use Rattle.scripts.proofs.Relations.{of_own}
use Rattle.scripts.specs.OwnPools.{IsPlannedOn}
use Rattle.scripts.proofs.own_clients.a_close_line_closes_the_group.Goals as goal

pub returns-clause-good : goal.returns-clause-good
returns-clause-good c = good_line (of_own _) IsPlannedOn c.args.session.now c.run_line.new.session c.run_line.result c.requires c.run_line.ensures.bad

pub returns-clause-closes : goal.returns-clause-closes
returns-clause-closes c = closed_line (of_own _) IsPlannedOn c.args.session.now c.run_line.new.session c.run_line.result c.run_line.ensures.answered
