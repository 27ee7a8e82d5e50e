use Rattle.std.proofs.Common.{◌≡◌, ◌++◌, drop}
use Rattle.std.specs.Option.{option_map}
use Rattle.std.specs.Vec.Iter.{into_iter_items}
use Rattle.scripts.specs.Fillings.{ops_of}
use Rattle.scripts.proofs.pool_commands.fill_plan.Given as goal

abbrev pub invariant-loop-shape : goal.invariant-loop-shape
invariant-loop-shape l =
    ops_of l.shapes l.fn.contents.items ≡ option_map (λ more. l.ops.items ++ more) (ops_of (drop l.shape-index l.shapes) (into_iter_items l.rest))
