use Rattle.tree_plans.specs.Pointers.{entry_strips}
use Rattle.tree_plans.proofs.new_entry.entry_strips.Given as goal

abbrev pub ghost-of : goal.ghost-of
ghost-of a = entry_strips a.x.now
