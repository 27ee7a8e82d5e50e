use Rattle.std.proofs.Common.{refl}
use Rattle.import_replay.specs.Cleared.{zeros}
use Rattle.import_replay.proofs.creation.zero_tail.Goals as goal

pub returns : goal.returns
unfolding zeros
returns c = refl
