use Rattle.std.proofs.Common.{◌∙◌, refl, sym}
use Rattle.pool_tables.proofs.Charges.{charge_throttled}
use Rattle.pool_tables.proofs.pool.PoolTables.check_room.Goals as goal

pub returns-then-is_throttled-clause-refusal : goal.returns-then-is_throttled-clause-refusal
returns-then-is_throttled-clause-refusal c =
    let room = sym c.is_full.ensures ∙ c.if-is_full.false in
    let charge = charge_throttled c.args.self.now c.args.plan.now c.of-cost.result.charge c.is_throttled.result c.of-cost.ensures.charge c.is_throttled.ensures ∙ c.if-is_throttled.true in
    rw (room, charge) refl

pub returns-then-is_short_for-clause-refusal : goal.returns-then-is_short_for-clause-refusal
returns-then-is_short_for-clause-refusal c =
    let room = sym c.is_full.ensures ∙ c.if-is_full.false in
    let charge = charge_throttled c.args.self.now c.args.plan.now c.of-cost.result.charge c.is_throttled.result c.of-cost.ensures.charge c.is_throttled.ensures ∙ c.if-is_throttled.false in
    rw (room, charge, sym c.is_short_for.ensures, c.if-is_short_for.true) refl

pub returns-clause-refusal : goal.returns-clause-refusal
returns-clause-refusal c =
    let room = sym c.is_full.ensures ∙ c.if-is_full.false in
    let charge = charge_throttled c.args.self.now c.args.plan.now c.of-cost.result.charge c.is_throttled.result c.of-cost.ensures.charge c.is_throttled.ensures ∙ c.if-is_throttled.false in
    rw (room, charge, sym c.is_short_for.ensures, c.if-is_short_for.false) refl
