use Rattle.unsynced_extents.proofs.UnsyncedGroups as unsynced
use Rattle.unsynced_extents.proofs.laws.unsynced_are_read.Goals as goal

pub returns : goal.returns
returns c = unsynced.unsynced_are_read
