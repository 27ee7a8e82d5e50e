use Rattle.std.proofs.Common.{sym, ◌∙◌, subst, Option, ℕ}
use Rattle.std.specs.Prelude.{IfSome, ◌≤◌, ◌*◌, ◌+◌}
use Rattle.tree_plans.proofs.DirtyStrips.{dirty_touches, hole_touches, no_first}
use Rattle.tree_plans.proofs.changes.ObjectChanges.touches_strip.Goals as goal
use Rattle.tree_plans.proofs.changes.ObjectChanges.touches_strip.Goals.{in_default-via-in-Some+else-first-end, in_default-via-in_default}

pub returns-in-Some : goal.returns-in-Some
returns-in-Some c = sym (hole_touches c.args.self.now c.args.index c.in-Some.first c.in-Some.is c.if-first-end.true)

pub returns-in_default : goal.returns-in_default
returns-in_default c = c.writes_strip.ensures ∙ dirty_touches c.args.self.now c.args.index (elim c.in_default.branch [
  | in_default-via-in-Some+else-first-end w ↦ subst (λ (o : Option ℕ). IfSome o (λ first. 84 * (c.args.index + 1) ≤ first)) (sym w.in-Some.is) w.if-first-end.false
  | in_default-via-in_default w ↦ no_first c.args.self.now.first_hole _ w.in_default.not-Some
])
