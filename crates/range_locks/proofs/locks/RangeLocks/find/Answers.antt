use Rattle.std.proofs.Common.{None, Some, cond, ap, sym, ◌∙◌}
use Rattle.std.proofs.lemmas.Bool.{eq-eqb, ne_eqb}
use Rattle.range_locks.specs.Locks.{grant_of}
use Rattle.range_locks.proofs.Names.{find-named, owned}
use Rattle.range_locks.proofs.locks.RangeLocks.find.Goals as goal
use Rattle.range_locks.proofs.locks.RangeLocks.find.Goals.{in_default-via-in-Some+else-lock-owner, in_default-via-in_default}

pub returns-in-Some : goal.returns-in-Some
returns-in-Some c = rw (← c.self.view_is) (sym (
    find-named c.args.id.0 c.args.owner.0 c.self.inside.held.entries c.self.invariant.are.rising
    ∙ ap (owned c.args.id.0 c.args.owner.0) (sym c.in-Some.ensures.value)
    ∙ ap (λ b. cond b (Some (grant_of (c.args.id, c.in-Some.lock.now))) None) (eq-eqb _ _ c.if-lock-owner.true)))

pub returns-in_default : goal.returns-in_default
returns-in_default c =
    let found = find-named c.args.id.0 c.args.owner.0 c.self.inside.held.entries c.self.invariant.are.rising in
    elim c.in_default.branch [
      | in_default-via-in-Some+else-lock-owner w ↦ rw (← c.self.view_is) (sym (
          found
          ∙ ap (owned c.args.id.0 c.args.owner.0) (sym w.in-Some.ensures.value)
          ∙ ap (λ b. cond b (Some (grant_of (c.args.id, w.in-Some.lock.now))) None) (ne_eqb _ _ w.if-lock-owner.false)))
      | in_default-via-in_default w ↦ rw (← c.self.view_is) (sym (found ∙ ap (owned c.args.id.0 c.args.owner.0) (sym w.in_default.ensures.value)))
    ]
