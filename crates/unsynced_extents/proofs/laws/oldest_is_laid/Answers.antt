use Rattle.unsynced_extents.proofs.UnsyncedGroups as unsynced
use Rattle.unsynced_extents.proofs.laws.oldest_is_laid.Goals as goal

pub returns : goal.returns
returns c = unsynced.oldest_is_laid
