use Rattle.group_plans.proofs.GroupObjects as lemmas
use Rattle.group_plans.proofs.laws.groups_leave_objects.Goals as goal

pub returns : goal.returns
returns c = lemmas.groups_leave_objects
