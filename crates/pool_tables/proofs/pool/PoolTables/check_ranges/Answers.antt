use Rattle.std.proofs.Common.{◌∙◌, refl, sym}
use Rattle.pool_tables.proofs.BeginTests.{covered_same}
use Rattle.pool_tables.proofs.pool.PoolTables.check_ranges.Goals as goal

pub returns-then-not-is_covered : goal.returns-then-not-is_covered
returns-then-not-is_covered c =
    let covered = sym (covered_same c.args.owner.0 c.args.self.now.locks.locks c.args.plan.now c.requires) ∙ sym c.is_covered.ensures ∙ c.if-not-is_covered.true in
    rw covered refl

pub returns-then-is_blocked : goal.returns-then-is_blocked
returns-then-is_blocked c =
    let covered = sym (covered_same c.args.owner.0 c.args.self.now.locks.locks c.args.plan.now c.requires) ∙ sym c.is_covered.ensures ∙ c.if-not-is_covered.false in
    let blocked = sym (c.is_blocked.ensures.blocked c.requires) ∙ c.if-is_blocked.true in
    rw (covered, blocked) refl

pub returns : goal.returns
returns c =
    let covered = sym (covered_same c.args.owner.0 c.args.self.now.locks.locks c.args.plan.now c.requires) ∙ sym c.is_covered.ensures ∙ c.if-not-is_covered.false in
    let blocked = sym (c.is_blocked.ensures.blocked c.requires) ∙ c.if-is_blocked.false in
    rw (covered, blocked) refl
