use Rattle.std.specs.Prelude.{◌∷◌}
use Rattle.tree_blocks.specs.Pointers.{payload_pointers}
use Rattle.tree_blocks.proofs.told_strips.with_strip.Given as goal

abbrev pub ghost-of : goal.ghost-of
ghost-of a = (a.x.now.1, (a.x.now.2, payload_pointers a.x.now.3.now)) ∷ a.x.now.0.now.value
