use Rattle.base.proofs.space_laws.syncs_have_room.Goals as goal
use Rattle.base.proofs.steps.Reservations.{syncs_have_room}

pub returns : goal.returns
returns c = syncs_have_room
