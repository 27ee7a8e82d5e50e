use Rattle.fronts.proofs.Fronts.{safe_disks_leave_fronts}
use Rattle.fronts.proofs.histories.safe_disks_leave_fronts.Goals as goal

pub returns : goal.returns
returns c = safe_disks_leave_fronts
