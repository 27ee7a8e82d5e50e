use Rattle.std.proofs.Common.{◌≡◌, ◌∙◌, ◌==◌, Bool, not, List, ap, sym, subst, refl}
use Rattle.std.proofs.lemmas.Bool.{false≢true}
use Rattle.std.proofs.lemmas.Result.{err_from_is_err_and}
use Rattle.std.proofs.lemmas.List.Elements.{All-filter}
use Rattle.base.specs.steps.Groups.{Admission}
use Rattle.groups.specs.CountedLines.{after_release}
use Rattle.groups.specs.Laws.{AreHoldsExact}
use Rattle.space.specs.FreeSets.{FreeSpace}
use Rattle.throttle.proofs.ShownSums.{sums_stay_on_lines}
use Rattle.transactions.specs.Open.{admission_of}
use Rattle.pool_tables.specs.Shows.{pool_shown}
use Rattle.pool_tables.proofs.Aborts.{abort_done, abort_none, abort_suspended, ended_allowed, ended_charged, ended_held, ended_reserved, ended_small, ended_unsynced, none_ended, others_charged, others_reserved}
use Rattle.pool_tables.proofs.Charges.{shows_sums}
use Rattle.pool_tables.proofs.HeldGroups.{counted_release, exact_end, line-after_release, may_release, where_passed}
use Rattle.pool_tables.proofs.Opens.{HasAllowedPlan, IsSmall}
use Rattle.pool_tables.proofs.pool.PoolTables.abort.Goals as goal

pub returns-in_err-check_running-clause-step : goal.returns-in_err-check_running-clause-step
returns-in_err-check_running-clause-step c =
    let p = err_from_is_err_and c.from_residual.result c.from_residual.ensures.1 in
    let told = c.in_err-check_running.ensures in
    rw (p.1, p.2, told.0) (abort_suspended c.args.tx.0 (pool_shown c.args.self.now) told.1)

pub invariant_of-self-clause-accounted : goal.invariant_of-self-clause-accounted
invariant_of-self-clause-accounted c =
    let pool = c.args.self.now in
    let same = none_ended c.args.tx.0 pool.transactions c.end.new.self (sym c.in_default.ensures.ended) c.in_default.ensures.others c.in_default.ensures.next in
    rw same pool.accounted

pub returns-in_default-clause-step : goal.returns-in_default-clause-step
returns-in_default-clause-step c =
    let pool = c.args.self.now in
    let same = none_ended c.args.tx.0 pool.transactions c.end.new.self (sym c.in_default.ensures.ended) c.in_default.ensures.others c.in_default.ensures.next in
    rw same (abort_none c.args.tx.0 (pool_shown pool) c.in_ok-check_running.ensures (sym c.in_default.ensures.ended))

pub charge-requires-clause-allowed : goal.charge-requires-clause-allowed
charge-requires-clause-allowed c = rw c.as_slice-shapes.ensures (ended_allowed c.args.self.now c.args.tx.0 (admission_of c.in-Some.transaction) (sym c.in-Some.ensures.ended))

pub charge-requires-clause-small : goal.charge-requires-clause-small
charge-requires-clause-small c = rw c.as_slice-shapes.ensures (ended_small c.args.self.now c.args.tx.0 (admission_of c.in-Some.transaction) (sym c.in-Some.ensures.ended))

pub cancel-requires-clause-unsynced : goal.cancel-requires-clause-unsynced
cancel-requires-clause-unsynced c = ended_unsynced c.args.self.now c.args.tx.0 (admission_of c.in-Some.transaction) (sym c.in-Some.ensures.ended) c.in-Some.ensures.apart

pub cancel-requires-clause-charged : goal.cancel-requires-clause-charged
cancel-requires-clause-charged c = rw (c.charge.ensures, c.as_slice-shapes.ensures) (ended_charged c.args.self.now c.args.tx.0 (admission_of c.in-Some.transaction) (sym c.in-Some.ensures.ended))

pub estimate-requires-clause-allowed : goal.estimate-requires-clause-allowed
estimate-requires-clause-allowed c = rw c.as_slice-shapes.ensures (ended_allowed c.args.self.now c.args.tx.0 (admission_of c.in-Some.transaction) (sym c.in-Some.ensures.ended))

pub estimate-requires-clause-small : goal.estimate-requires-clause-small
estimate-requires-clause-small c = rw c.as_slice-shapes.ensures (ended_small c.args.self.now c.args.tx.0 (admission_of c.in-Some.transaction) (sym c.in-Some.ensures.ended))

pub unreserve-requires : goal.unreserve-requires
unreserve-requires c =
    rw (c.estimate.ensures, c.as_slice-shapes.ensures)
    (ended_reserved c.args.self.now c.args.tx.0 (admission_of c.in-Some.transaction) (sym c.in-Some.ensures.ended) _ (rw (c.charge.ensures, c.as_slice-shapes.ensures) at c.cancel.ensures.total))

pub unreachable-requires : goal.unreachable-requires
unreachable-requires c =
    let held = ended_held c.args.self.now c.args.tx.0 (admission_of c.in-Some.transaction) (sym c.in-Some.ensures.ended) c.in-Some.ensures.apart in
    false≢true (sym (may_release c.args.self.now.groups c.in-Some.transaction.group.0 held) ∙ c.in_default-release.ensures.refused.0 refl)

pub invariant_of-self-2-clause-accounted : goal.invariant_of-self-2-clause-accounted
invariant_of-self-2-clause-accounted c =
    let pool = c.args.self.now in
    let all = pool.transactions.transactions in
    let a = admission_of c.in-Some.transaction in
    let others : Admission → Bool = λ (x : Admission). not (x.tx == c.args.tx.0) in
    let held = ended_held pool c.args.tx.0 (admission_of c.in-Some.transaction) (sym c.in-Some.ensures.ended) c.in-Some.ensures.apart in
    let released : c.release.new.self ≡ after_release c.in-Some.transaction.group.0 pool.groups = where_passed c.release.result _ _ c.release.ensures.refused
    (may_release pool.groups c.in-Some.transaction.group.0 held) c.release.ensures.released in
    record {
      counted = rw released (counted_release pool.groups pool.accounted.counted a.group);
      holds_exact = subst (AreHoldsExact c.end.new.self.transactions) (sym released)
          (subst (λ (ts : List Admission). AreHoldsExact ts (after_release a.group pool.groups)) (sym c.in-Some.ensures.others)
          (exact_end all pool.groups c.args.tx.0 a a.group pool.accounted.holds_exact c.in-Some.ensures.apart (sym c.in-Some.ensures.ended) refl));
      charged = rw (released, line-after_release pool.groups pool.accounted.counted a.group, c.cancel.ensures.canceled, c.charge.ensures)
          ((sums_stay_on_lines pool.groups.line pool.dirty pool.accounted.charged).cancel a.group c.as_slice-shapes.result.now);
      open_charged = rw (c.in-Some.ensures.others, c.cancel.ensures.canceled, c.charge.ensures, c.as_slice-shapes.ensures)
          (others_charged pool c.args.tx.0 a (sym c.in-Some.ensures.ended));
      plans_allowed = rw c.in-Some.ensures.others (All-filter others HasAllowedPlan all pool.accounted.plans_allowed);
      plans_small = rw c.in-Some.ensures.others (All-filter others IsSmall all pool.accounted.plans_small);
    }

pub invariant_of-self-2-clause-free_counted : goal.invariant_of-self-2-clause-free_counted
invariant_of-self-2-clause-free_counted c =
    let pool = c.args.self.now in
    record {
      sized = ap (λ (f : FreeSpace). f.blocks) c.unreserve.ensures ∙ pool.free_counted.sized;
      taken = ap (λ (f : FreeSpace). f.taken) c.unreserve.ensures ∙ pool.free_counted.taken;
      reserved = ap (λ (f : FreeSpace). f.reserved) c.unreserve.ensures
          ∙ rw (c.estimate.ensures, c.as_slice-shapes.ensures)
          (others_reserved pool c.args.tx.0 (admission_of c.in-Some.transaction) (sym c.in-Some.ensures.ended) _ (rw (c.charge.ensures, c.as_slice-shapes.ensures) at c.cancel.ensures.total));
    }

pub invariant_of-self-2-clause-unsynced_kept : goal.invariant_of-self-2-clause-unsynced_kept
invariant_of-self-2-clause-unsynced_kept c =
    let pool = c.args.self.now in
    let held = ended_held pool c.args.tx.0 (admission_of c.in-Some.transaction) (sym c.in-Some.ensures.ended) c.in-Some.ensures.apart in
    let released : c.release.new.self ≡ after_release c.in-Some.transaction.group.0 pool.groups = where_passed c.release.result _ _ c.release.ensures.refused
    (may_release pool.groups c.in-Some.transaction.group.0 held) c.release.ensures.released in
    rw (released, line-after_release pool.groups pool.accounted.counted c.in-Some.transaction.group.0) pool.unsynced_kept

pub invariant_of-self-2-clause-logged : goal.invariant_of-self-2-clause-logged
invariant_of-self-2-clause-logged c =
    let pool = c.args.self.now in
    let held = ended_held pool c.args.tx.0 (admission_of c.in-Some.transaction) (sym c.in-Some.ensures.ended) c.in-Some.ensures.apart in
    let released : c.release.new.self ≡ after_release c.in-Some.transaction.group.0 pool.groups = where_passed c.release.result _ _ c.release.ensures.refused
    (may_release pool.groups c.in-Some.transaction.group.0 held) c.release.ensures.released in
    rw (released, line-after_release pool.groups pool.accounted.counted c.in-Some.transaction.group.0) pool.logged

pub returns-clause-step : goal.returns-clause-step
returns-clause-step c =
    let pool = c.args.self.now in
    let a = admission_of c.in-Some.transaction in
    abort_done c.args.tx.0 a (pool_shown pool) _ pool.dirty c.in_ok-check_running.ensures (sym c.in-Some.ensures.ended) pool.accounted.charged (shows_sums pool)
    (rw (c.in-Some.ensures.others, c.in-Some.ensures.next, c.in-Ok.ensures.released, line-after_release pool.groups pool.accounted.counted a.group, c.cancel.ensures.canceled, c.charge.ensures, c.as_slice-shapes.ensures, c.unreserve.ensures) refl)
