use Rattle.std.specs.FinMap as finite
use Rattle.tree_blocks.proofs.told_objects.with_object.Given as goal

abbrev pub ghost-of : goal.ghost-of
ghost-of a = finite.insert a.x.now.0.now.value a.x.now.1 a.x.now.2.now.value
