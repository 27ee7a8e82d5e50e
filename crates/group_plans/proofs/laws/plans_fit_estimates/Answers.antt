use Rattle.group_plans.proofs.GroupCounts as lemmas
use Rattle.group_plans.proofs.laws.plans_fit_estimates.Goals as goal

pub returns : goal.returns
returns c = lemmas.plans_fit_estimates
