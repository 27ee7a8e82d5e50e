use Rattle.std.proofs.Common.{suc, ◌≡◌, ◌-◌, subst, arith}
use Rattle.range_locks.specs.Rows.{IsGapAt}
use Rattle.range_locks.proofs.PartRows.{gap_first, last_at_gap, last_at_row}
use Rattle.range_locks.proofs.part_table.PartTable.last_up_to.Goals as goal

pub returns-in-Ok : goal.returns-in-Ok
returns-in-Ok c = last_at_row c.args.at c.args.self.now c.in-Ok.place c.find.ensures.rise c.in-Ok.ensures.found _ c.row.ensures

pub returns-then-place-eq0 : goal.returns-then-place-eq0
returns-then-place-eq0 c = gap_first c.args.at c.args.self.now c.find.ensures.rise (subst (λ i. IsGapAt c.args.at c.args.self.now i) c.if-place-eq0.true c.in-Err.ensures.absent)

pub returns-else-place-eq0 : goal.returns-else-place-eq0
returns-else-place-eq0 c =
    let next : c.in-Err.place ≡ suc (c.in-Err.place - 1) = omega (arith, c.if-place-eq0.false) in
    last_at_gap c.args.at c.args.self.now (c.in-Err.place - 1) c.find.ensures.rise (subst (λ i. IsGapAt c.args.at c.args.self.now i) next c.in-Err.ensures.absent) _ c.row-in-Err.ensures
