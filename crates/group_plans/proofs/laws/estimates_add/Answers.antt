use Rattle.group_plans.proofs.GroupCounts as lemmas
use Rattle.group_plans.proofs.laws.estimates_add.Goals as goal

pub returns : goal.returns
returns c = lemmas.estimates_add
