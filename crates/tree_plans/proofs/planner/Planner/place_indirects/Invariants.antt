use Rattle.std.proofs.Common.{◌≡◌, ◌≤◌, vec_len, vec_capacity}
use Rattle.tree_plans.specs.Parts.{PlansIndirectsBelow}
use Rattle.tree_plans.proofs.planner.Planner.place_indirects.Given as goal

abbrev pub invariant-loop-strip : goal.invariant-loop-strip
invariant-loop-strip l = record {
  geometry : l.self.geometry ≡ l.fn.self.geometry;
  count : vec_len l.indirects ≡ l.strip;
  room : 84 ≤ vec_capacity l.indirects;
  done : PlansIndirectsBelow l.free l.object l.strips.entries l.strip l.fn.self l.self l.indirects.items;
}
