use Rattle.base.proofs.seen_laws.pool_syncs_sync.Goals as goal
use Rattle.base.proofs.steps.SeenGroups.{pool_syncs_sync}

pub returns : goal.returns
returns c = pool_syncs_sync
