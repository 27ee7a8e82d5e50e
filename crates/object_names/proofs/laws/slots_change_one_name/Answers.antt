use Rattle.object_names.proofs.Renamed.{slots-change_one_name}
use Rattle.object_names.proofs.laws.slots_change_one_name.Goals as goal

pub returns : goal.returns
returns c = slots-change_one_name
