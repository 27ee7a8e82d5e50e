use Rattle.std.proofs.Common.{◌≡◌, ◌∙◌, ◌≤◌, List, subst, sym, true, refl, arith}
use Rattle.std.specs.Prelude.{All, Some, None}
use Rattle.std.proofs.lemmas.Bool.{false≢true}
use Rattle.std.proofs.lemmas.List.Elements.{All-push}
use Rattle.std.proofs.lemmas.Result.{err_from_is_err_and}
use Rattle.base.specs.declared.operation.Shape.{Shape}
use Rattle.base.specs.formats.Limits.{max_log_record}
use Rattle.base.specs.history.Plans.{is_plan_allowed, log_record_size}
use Rattle.base.specs.steps.Refusals.{begin_refusal}
use Rattle.groups.specs.CountedLines.{after_hold}
use Rattle.groups.specs.Laws.{AreHoldsExact}
use Rattle.transactions.specs.Open.{Open}
use Rattle.throttle.proofs.OpenCharges.{stay_charged}
use Rattle.throttle.proofs.ShownSums.{sums_stay_on_lines}
use Rattle.pool_tables.specs.Shows.{pool_shown}
use Rattle.pool_tables.proofs.BeginTests.{begin_admits, begin_done, begin_refused, begin_wants, may_begin}
use Rattle.pool_tables.proofs.Charges.{charge_throttled, enough_free, open_charged, shows_sums}
use Rattle.pool_tables.proofs.HeldGroups.{counted_hold, exact_begin, may_begin_hold, where_passed}
use Rattle.pool_tables.proofs.Opens.{HasAllowedPlan, IsSmall}
use Rattle.pool_tables.proofs.pool.PoolTables.begin.Goals as goal

pub returns-in_err-cost-clause-step : goal.returns-in_err-cost-clause-step
returns-in_err-cost-clause-step c =
    let p = err_from_is_err_and c.from_residual.result c.from_residual.ensures.1 in
    let s = pool_shown c.args.self.now in
    let e = c.in_err-cost.field-0.0 in
    rw (p.1, p.2) (begin_refused c.args.owner.0 c.args.plan.now s e (subst (λ (l : List Shape). begin_refusal c.args.owner.0 l s ≡ Some e) c.as_slice.ensures c.in_err-cost.ensures.refusal))

pub returns-in_err-plan-clause-step : goal.returns-in_err-plan-clause-step
returns-in_err-plan-clause-step c =
    let p = err_from_is_err_and c.from_residual-in_err-plan.result c.from_residual-in_err-plan.ensures.1 in
    let s = pool_shown c.args.self.now in
    let none = subst (λ (l : List Shape). begin_refusal c.args.owner.0 l s ≡ None) c.as_slice.ensures c.in_ok-cost.ensures.refusal in
    rw (p.1, p.2) (begin_wants c.args.owner.0 c.args.plan.now s none)

pub returns-in_err-tx-clause-step : goal.returns-in_err-tx-clause-step
returns-in_err-tx-clause-step c =
    let p = err_from_is_err_and c.from_residual-in_err-tx.result c.from_residual-in_err-tx.ensures.1 in
    let s = pool_shown c.args.self.now in
    let none = subst (λ (l : List Shape). begin_refusal c.args.owner.0 l s ≡ None) c.as_slice.ensures c.in_ok-cost.ensures.refusal in
    rw (p.1, p.2, c.in_err-tx.ensures.unchanged, c.in_err-tx.ensures.refused) (begin_wants c.args.owner.0 c.args.plan.now s none)

pub admit_tested-requires-clause-allowed : goal.admit_tested-requires-clause-allowed
admit_tested-requires-clause-allowed c =
    let may = may_begin c.args.owner.0 c.as_slice.result.now (pool_shown c.args.self.now) c.in_ok-cost.ensures.refusal in
    let allowed = may.allowed in
    subst (λ (l : List Shape). is_plan_allowed l ≡ true) (c.as_slice.ensures ∙ sym c.in_ok-plan.ensures) allowed

pub admit_tested-requires-clause-passed : goal.admit_tested-requires-clause-passed
admit_tested-requires-clause-passed c =
    let s = pool_shown c.args.self.now in
    let none = subst (λ (l : List Shape). begin_refusal c.args.owner.0 l s ≡ None) c.as_slice.ensures c.in_ok-cost.ensures.refusal in
    let may = may_begin c.args.owner.0 c.args.plan.now s none in
    rw c.in_ok-plan.ensures (begin_admits c.args.owner.0 c.args.plan.now s may)

pub admit-requires : goal.admit-requires
admit-requires c = rw c.open_group-group.ensures.open_group (open_charged c.args.self.now)

pub unreachable-requires : goal.unreachable-requires
unreachable-requires c =
    let shapes = c.as_slice.result.now in
    let may = may_begin c.args.owner.0 shapes (pool_shown c.args.self.now) c.in_ok-cost.ensures.refusal in
    let passes = sym (charge_throttled c.args.self.now shapes c.in_ok-cost.cost.charge _ c.in_ok-cost.ensures.charge refl) ∙ may.charge in
    false≢true (sym passes ∙ c.in_default.ensures.throttled.0 refl)

pub unreachable-requires-in_default-reserve : goal.unreachable-requires-in_default-reserve
unreachable-requires-in_default-reserve c =
    let shapes = c.as_slice.result.now in
    let may = may_begin c.args.owner.0 shapes (pool_shown c.args.self.now) c.in_ok-cost.ensures.refusal in
    enough_free c.args.self.now shapes c.in_ok-cost.cost.blocks c.in_ok-cost.ensures.blocks may.blocks (c.in_default-reserve.ensures.refused.0 refl)

pub unreachable-requires-in_default-hold : goal.unreachable-requires-in_default-hold
unreachable-requires-in_default-hold c =
    let pool = c.args.self.now in
    let may = may_begin c.args.owner.0 c.as_slice.result.now (pool_shown pool) c.in_ok-cost.ensures.refusal in
    let passes = may_begin_hold pool.groups pool.accounted.counted pool.transactions.transactions pool.accounted.holds_exact may.few in
    false≢true (sym passes ∙ c.in_default-hold.ensures.refused.0 refl)

pub invariant_of-self-2-clause-accounted : goal.invariant_of-self-2-clause-accounted
invariant_of-self-2-clause-accounted c =
    let pool = c.args.self.now in
    let all = pool.transactions.transactions in
    let may = may_begin c.args.owner.0 c.as_slice.result.now (pool_shown pool) c.in_ok-cost.ensures.refusal in
    let opened = c.open_group-group.ensures.open_group in
    let same = c.as_slice.ensures ∙ sym c.in_ok-plan.ensures in
    let admitted = sym c.in_ok-tx.ensures.admitted in
    let held : c.hold.new.self ≡ after_hold pool.groups = where_passed c.hold.result _ _ c.hold.ensures.refused
    (may_begin_hold pool.groups pool.accounted.counted pool.transactions.transactions pool.accounted.holds_exact may.few) c.hold.ensures.held in
    record {
      counted = rw held (counted_hold pool.groups pool.accounted.counted);
      holds_exact = subst (AreHoldsExact c.admit_tested.new.self.transactions) (sym held)
          (subst (λ (o : Open). AreHoldsExact o.transactions (after_hold pool.groups)) admitted (exact_begin all pool.groups _ pool.accounted.holds_exact opened));
      charged = rw (held, c.in-Ok.ensures.admitted, c.in_ok-cost.ensures.charge, opened)
          ((sums_stay_on_lines pool.groups.line pool.dirty pool.accounted.charged).admit pool.groups.line.open_group c.as_slice.result.now (omega arith));
      open_charged = rw (c.in_ok-tx.ensures.admitted, c.in-Ok.ensures.admitted, c.in_ok-cost.ensures.charge, c.as_slice.ensures, ← c.in_ok-plan.ensures)
          ((stay_charged all pool.dirty pool.accounted.open_charged).admitted _);
      plans_allowed = subst (λ (o : Open). All HasAllowedPlan o.transactions) admitted
          (All-push HasAllowedPlan all _ pool.accounted.plans_allowed (subst (λ (l : List Shape). is_plan_allowed l ≡ true) same may.allowed));
      plans_small = subst (λ (o : Open). All IsSmall o.transactions) admitted
          (All-push IsSmall all _ pool.accounted.plans_small (subst (λ (l : List Shape). log_record_size l ≤ max_log_record) same may.small));
    }

pub invariant_of-self-2-clause-unsynced_kept : goal.invariant_of-self-2-clause-unsynced_kept
invariant_of-self-2-clause-unsynced_kept c =
    let pool = c.args.self.now in
    let may = may_begin c.args.owner.0 c.as_slice.result.now (pool_shown pool) c.in_ok-cost.ensures.refusal in
    let held : c.hold.new.self ≡ after_hold pool.groups = where_passed c.hold.result _ _ c.hold.ensures.refused
    (may_begin_hold pool.groups pool.accounted.counted pool.transactions.transactions pool.accounted.holds_exact may.few) c.hold.ensures.held in
    rw held pool.unsynced_kept

pub invariant_of-self-2-clause-logged : goal.invariant_of-self-2-clause-logged
invariant_of-self-2-clause-logged c =
    let pool = c.args.self.now in
    let may = may_begin c.args.owner.0 c.as_slice.result.now (pool_shown pool) c.in_ok-cost.ensures.refusal in
    let held : c.hold.new.self ≡ after_hold pool.groups = where_passed c.hold.result _ _ c.hold.ensures.refused
    (may_begin_hold pool.groups pool.accounted.counted pool.transactions.transactions pool.accounted.holds_exact may.few) c.hold.ensures.held in
    rw held pool.logged

pub returns-clause-step : goal.returns-clause-step
returns-clause-step c =
    let pool = c.args.self.now in
    let s = pool_shown pool in
    let none = subst (λ (l : List Shape). begin_refusal c.args.owner.0 l s ≡ None) c.as_slice.ensures c.in_ok-cost.ensures.refusal in
    let opened = c.open_group-group.ensures.open_group in
    rw (c.in_ok-tx.ensures.name, opened)
    (begin_done c.args.owner.0 c.args.plan.now s pool.dirty _ none (shows_sums pool) (rw (c.in-Ok-hold.ensures.held, c.in_ok-tx.ensures.admitted, c.in_ok-plan.ensures, c.in-Ok.ensures.admitted, c.in_ok-cost.ensures.charge, c.as_slice.ensures, c.in-Ok-reserve.ensures.reserved, opened) refl))
