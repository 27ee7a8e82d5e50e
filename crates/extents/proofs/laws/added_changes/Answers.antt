use Rattle.extents.proofs.SamePatches as same
use Rattle.extents.proofs.laws.added_changes.Goals as goal

pub returns : goal.returns
returns c = same.added_changes
