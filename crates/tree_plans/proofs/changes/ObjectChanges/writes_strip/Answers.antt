use Rattle.std.proofs.Common.{◌∙◌}
use Rattle.tree_plans.proofs.DirtyStrips.{first_told}
use Rattle.tree_plans.proofs.changes.ObjectChanges.writes_strip.Goals as goal

pub returns : goal.returns
returns c = c.is_some.ensures ∙ first_told _ c.args.self.now c.args.index _ _ _ (c.range.ensures.in_range tt) c.next.ensures.steps
