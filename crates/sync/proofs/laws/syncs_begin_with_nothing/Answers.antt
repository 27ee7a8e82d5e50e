use Rattle.sync.proofs.Blocks.{nothing_made}
use Rattle.sync.proofs.laws.syncs_begin_with_nothing.Goals as goal

pub returns : goal.returns
returns c = nothing_made
