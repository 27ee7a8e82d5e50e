use Rattle.std.proofs.Common.{◌≡◌, ◌<◌, ◌^◌}
use Rattle.mapped_labels.specs.Shapes.{nodes_over}
use Rattle.mapped_labels.proofs.geometry.nodes_over.Given as goal

abbrev pub invariant-loop : goal.invariant-loop
invariant-loop l = record {
  nodes : l.nodes ≡ nodes_over l.total l.counter;
  most : l.nodes < 2 ^ 18;
}
