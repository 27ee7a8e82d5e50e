use Rattle.group_plans.proofs.GroupTrees as lemmas
use Rattle.group_plans.proofs.laws.plans_make_trees.Goals as goal

pub returns : goal.returns
returns c = lemmas.plans_make_trees
