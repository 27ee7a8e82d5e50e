use Rattle.std.proofs.Common.{ℕ, ◌≡◌, subst, arith}
use Rattle.mapped_labels.proofs.MappedChosen.{IsBestBelow, best_more, active_from_best, none_from_best}
use Rattle.mapped_labels.specs.MappedRings.{IsBetterAt}
use Rattle.mapped_labels.proofs.ring.active.Goals as goal

pub loop-count-preserved : goal.loop-count-preserved
loop-count-preserved c =
    let here = c.loop-count in
    best_more c.args.ring.now here.count here.best c.better-best.result here.invariant
    (subst (λ (k : ℕ). IsBetterAt c.args.ring.now k here.best c.better-best.result) c.position.ensures.position c.better-best.ensures)

pub returns-clause-active : goal.returns-clause-active
returns-clause-active c =
    let here = c.loop-count in
    let end : here.count ≡ 128 = omega arith in
    active_from_best c.args.ring.now here.best (subst (λ (n : ℕ). IsBestBelow c.args.ring.now n here.best) end here.invariant)

pub returns-clause-none : goal.returns-clause-none
returns-clause-none c =
    let here = c.loop-count in
    let end : here.count ≡ 128 = omega arith in
    none_from_best c.args.ring.now here.best (subst (λ (n : ℕ). IsBestBelow c.args.ring.now n here.best) end here.invariant)
