use Rattle.std.proofs.Common.{refl, sym, subst, ◌∙◌}
use Rattle.std.specs.Prelude.{IsTrue}
use Rattle.pool_threads.proofs.OneTurn.{one_done}
use Rattle.pool_threads.specs.Transacts.{MakesTransaction}
use Rattle.pool_threads.specs.Views.{Explains}
use Rattle.pool_threads.proofs.handle.Handle.try_transact.Goals as goal

pub transact_turn-requires-clause-explains : goal.transact_turn-requires-clause-explains
transact_turn-requires-clause-explains g c =
    let held = c.acquire-guard.ensures.held in
    subst (λ v. Explains c.acquire-guard.result.held.value.value v) (sym c.acquire-guard.ensures.view) held.3

pub returns-clause-made : goal.returns-clause-made
returns-clause-made g c =
    let held = c.acquire-guard.ensures.held in
    let done = c.transact_turn.ensures in
    record {
      same_pool = (done.same.0.0 ∙ c.acquire-guard.ensures.same.0, refl);
      made = one_done (MakesTransaction (IsTrue g.D.SectorDevice.keeps_model) c.args.owner c.args.ranges.now c.args.plan.now c.args.ops c.transact_turn.result.0) _ _ _ _ held.1 held.2 held.4 held.5 done.done;
    }
