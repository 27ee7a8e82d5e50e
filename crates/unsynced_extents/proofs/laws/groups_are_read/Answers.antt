use Rattle.unsynced_extents.proofs.LaidGroups as groups
use Rattle.unsynced_extents.proofs.laws.groups_are_read.Goals as goal

pub returns : goal.returns
returns c = groups.groups_are_read
