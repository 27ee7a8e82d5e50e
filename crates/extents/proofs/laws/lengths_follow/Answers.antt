use Rattle.extents.proofs.PatchedObjects as patched
use Rattle.extents.proofs.laws.lengths_follow.Goals as goal

pub returns : goal.returns
returns c = patched.patched_length
