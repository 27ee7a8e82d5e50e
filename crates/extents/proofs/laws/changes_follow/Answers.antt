use Rattle.extents.proofs.PatchedObjects as patched
use Rattle.extents.proofs.laws.changes_follow.Goals as goal

pub returns : goal.returns
returns c = patched.changes_follow
