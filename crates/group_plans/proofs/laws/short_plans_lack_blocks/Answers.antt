use Rattle.group_plans.proofs.GroupCounts as lemmas
use Rattle.group_plans.proofs.laws.short_plans_lack_blocks.Goals as goal

pub returns : goal.returns
returns c = lemmas.short_plans_lack_blocks
