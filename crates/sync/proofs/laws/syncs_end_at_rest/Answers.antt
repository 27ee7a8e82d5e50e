use Rattle.sync.proofs.UnderWay.{ends_at_rest}
use Rattle.sync.proofs.laws.syncs_end_at_rest.Goals as goal

pub returns : goal.returns
returns c = ends_at_rest
