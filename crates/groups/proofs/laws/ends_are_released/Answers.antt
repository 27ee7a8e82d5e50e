use Rattle.groups.proofs.ExactHolds.{is_released}
use Rattle.groups.proofs.laws.ends_are_released.Goals as goal

pub returns : goal.returns
returns c = is_released
