use Rattle.unsynced_extents.proofs.UnsyncedGroups as unsynced
use Rattle.unsynced_extents.proofs.laws.names_are_read.Goals as goal

pub returns : goal.returns
returns c = unsynced.names_are_read
