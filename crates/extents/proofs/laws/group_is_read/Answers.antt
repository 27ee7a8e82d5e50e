use Rattle.extents.proofs.LaidObjects as laid
use Rattle.extents.proofs.laws.group_is_read.Goals as goal

pub returns : goal.returns
returns c = laid.group_is_read
