use Rattle.extents.proofs.PatchedObjects as patched
use Rattle.extents.proofs.laws.nothing_changes.Goals as goal

pub returns : goal.returns
returns c = (patched.patched_nothing, λ n below. patched.patched_nothing below)
