use Rattle.unsynced_extents.proofs.GroupEntries as entries
use Rattle.unsynced_extents.proofs.laws.left_changes.Goals as goal

pub returns : goal.returns
returns c = entries.left_changes
