use Rattle.group_plans.proofs.GroupChanges as lemmas
use Rattle.group_plans.proofs.laws.allowed_ops_take_place.Goals as goal

pub returns : goal.returns
returns c = lemmas.allowed_ops_take_place
