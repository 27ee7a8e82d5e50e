use Rattle.base.proofs.space_laws.old_pools_have_room.Goals as goal
use Rattle.base.proofs.crash.OldPools.{old_pools_have_room}

pub returns : goal.returns
returns c = old_pools_have_room
