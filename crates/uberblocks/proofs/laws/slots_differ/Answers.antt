use Rattle.uberblocks.proofs.Stands.{slots_differ}
use Rattle.uberblocks.proofs.laws.slots_differ.Goals as goal

pub returns : goal.returns
returns c = slots_differ
