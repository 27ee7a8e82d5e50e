use Rattle.std.proofs.Common.{rules}
use Rattle.tree_plans.proofs.new_entry.tell_strips.Goals as goal

pub of-requires : goal.of-requires
of-requires c κs within = search rules fits 30000
