use Rattle.std.proofs.Common.{◌≡◌, ◌≤◌, ◌*◌, ◌^◌}
use Rattle.mapped_labels.specs.Shapes.{nodes_up_to}
use Rattle.mapped_labels.proofs.geometry.nodes_up_to.Given as goal

abbrev pub invariant-loop-below : goal.invariant-loop-below
invariant-loop-below l = record {
  nodes : l.nodes ≡ nodes_up_to l.total l.below;
  most : l.nodes ≤ l.below * 2 ^ 18;
}
