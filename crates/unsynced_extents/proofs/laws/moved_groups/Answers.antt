use Rattle.unsynced_extents.proofs.GroupEntries as entries
use Rattle.unsynced_extents.proofs.laws.moved_groups.Goals as goal

pub returns : goal.returns
returns c = entries.moved_groups
