use Rattle.sync.proofs.UnderWay.{begins_at_rest}
use Rattle.sync.proofs.laws.syncs_begin_at_rest.Goals as goal

pub returns : goal.returns
returns c = begins_at_rest
