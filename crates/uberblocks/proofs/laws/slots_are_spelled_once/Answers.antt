use Rattle.uberblocks.proofs.Spelling.{slots_spelled_once}
use Rattle.uberblocks.proofs.laws.slots_are_spelled_once.Goals as goal

pub returns : goal.returns
returns c = slots_spelled_once
