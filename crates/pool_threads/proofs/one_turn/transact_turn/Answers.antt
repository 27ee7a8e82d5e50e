use Rattle.std.proofs.Common.{◌≡◌, refl, subst, sym}
use Rattle.std.specs.Prelude.{IfErr, IfNone, IfSome}
use Rattle.pool_threads.proofs.ForGood.{back_to_pass, given_up, nothing_back, seen_for_good, seen_to_pass}
use Rattle.pool_threads.proofs.OneTurn.{grown_from}
use Rattle.pool_threads.proofs.TransactsSeen.{transaction_grows}
use Rattle.pool_threads.specs.Transacts.{IsRetried}
use Rattle.pool_threads.specs.Views.{viewed_state}
use Rattle.word_lock.specs.Seats.{seen}
use Rattle.pool_threads.proofs.one_turn.transact_turn.Goals as goal
use Rattle.pool_threads.proofs.one_turn.transact_turn.Goals.{then-may_pass, else-may_pass+in-Some-1, else-may_pass+in-None-1}

pub put_back-requires-clause-grows : goal.put_back-requires-clause-grows
put_back-requires-clause-grows g c =
    let done = c.transact_noted-result in
    grown_from _ _ _ _ c.requires.view (transaction_grows _ c.args.owner c.args.ranges.now c.args.plan.now c.args.ops done.result.0 _ _ done.ensures.made)

pub returns-clause-again : goal.returns-clause-again
returns-clause-again g c =
    let done = c.transact_noted-result in
    elim c.if-may_pass.branch [
      | then-may_pass w ↦ back_to_pass c.args.ops _ c.if-may_pass.result (subst (λ o. IfSome o (λ back. back ≡ c.args.ops)) (sym w.result-is) done.ensures.same) (seen_to_pass c.args.owner c.args.ranges.now c.args.plan.now _ _ _ _ c.deref.ensures done.ensures.explains c.put_back.ensures.freed.1 done.result.0 (w.if-may_pass.ensures.again refl))
      | else-may_pass+in-Some-1 w ↦ nothing_back c.args.ops _ c.if-may_pass.result w.result-is
      | else-may_pass+in-None-1 w ↦ nothing_back c.args.ops _ c.if-may_pass.result w.result-is
    ]

pub returns-clause-for_good : goal.returns-clause-for_good
returns-clause-for_good g c =
    let done = c.transact_noted-result in
    elim c.if-may_pass.branch [
      | then-may_pass w ↦ given_up c.args.owner c.args.ranges.now c.args.plan.now c.if-may_pass.result done.result.0 (viewed_state (seen c.put_back.new.self)).shown (subst (λ o. IfNone o (IfErr done.result.0 (λ e. IsRetried c.args.ranges.now e → ⊥))) (sym w.result-is) done.ensures.for_good)
      | else-may_pass+in-Some-1 w ↦ seen_for_good c.args.owner c.args.ranges.now c.args.plan.now _ _ _ _ c.deref.ensures done.ensures.explains c.put_back.ensures.freed.1 c.if-may_pass.result done.result.0 (w.if-may_pass.ensures.for_good refl)
      | else-may_pass+in-None-1 w ↦ seen_for_good c.args.owner c.args.ranges.now c.args.plan.now _ _ _ _ c.deref.ensures done.ensures.explains c.put_back.ensures.freed.1 c.if-may_pass.result done.result.0 (w.if-may_pass.ensures.for_good refl)
    ]
