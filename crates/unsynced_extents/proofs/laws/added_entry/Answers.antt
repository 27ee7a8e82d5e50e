use Rattle.unsynced_extents.proofs.GroupEntries as entries
use Rattle.unsynced_extents.proofs.laws.added_entry.Goals as goal

pub returns : goal.returns
returns c = entries.added_entry
