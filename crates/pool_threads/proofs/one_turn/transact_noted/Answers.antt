use Rattle.std.proofs.Common.{subst}
use Rattle.std.specs.Prelude.{IsTrue}
use Rattle.pool_threads.proofs.Transacted.{transacted}
use Rattle.pool_threads.specs.Transacts.{Unlocks}
use Rattle.pool_threads.proofs.one_turn.transact_noted.Goals as goal

pub returns-clause-made : goal.returns-clause-made
returns-clause-made g c =
    let done = c.lock_and_commit-made in
    let unlocks = subst (λ ids. Unlocks (IsTrue g.D.SectorDevice.keeps_model) c.args.owner ids done.new.held.view.value c.unlock_all.new.held.view.value) c.deref.ensures.value c.unlock_all.ensures.made in
    transacted _ c.args.owner c.args.ranges.now c.args.plan.now c.args.ops done.new.locks.items _ _ _ done.result.0 done.ensures.made unlocks
