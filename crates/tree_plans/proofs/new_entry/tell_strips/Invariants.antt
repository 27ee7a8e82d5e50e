use Rattle.tree_plans.specs.Pointers.{strips_with}
use Rattle.tree_plans.proofs.new_entry.tell_strips.Given as goal

abbrev pub ghost-of : goal.ghost-of
ghost-of a = strips_with a.x.now.0.now a.x.now.1.now.entries a.x.now.2.now.value
