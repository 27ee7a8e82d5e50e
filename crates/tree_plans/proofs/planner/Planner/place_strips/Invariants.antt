use Rattle.std.proofs.Common.{◌≡◌}
use Rattle.tree_blocks.specs.Sources.{object_bytes}
use Rattle.tree_plans.specs.Parts.{AreMet, PlansStripsBelow}
use Rattle.tree_plans.proofs.planner.Planner.place_strips.Given as goal

abbrev pub invariant-loop-strip : goal.invariant-loop-strip
invariant-loop-strip g l = record {
  geometry : l.self.geometry ≡ l.fn.self.geometry;
  met : AreMet l.object l.strip l.strips.entries;
  done : PlansStripsBelow l.free l.object (object_bytes (g.O.ObjectSource.objects l.after) l.object.id.0) l.strip l.fn.self l.self l.strips.entries;
}
