use Rattle.std.proofs.Common.{refl, sym, subst, ◌∙◌}
use Rattle.pool_threads.proofs.Made.{made_by}
use Rattle.pool_threads.specs.Views.{Explains}
use Rattle.pool_threads.proofs.handle.Handle.try_call.Goals as goal

pub retried_turn-requires-clause-explains : goal.retried_turn-requires-clause-explains
retried_turn-requires-clause-explains g c =
    let held = c.acquire-guard.ensures.held in
    subst (λ v. Explains c.acquire-guard.result.held.value.value v) (sym c.acquire-guard.ensures.view) held.3

pub returns-clause-made : goal.returns-clause-made
returns-clause-made g c =
    let held = c.acquire-guard.ensures.held in
    let done = c.retried_turn.ensures in
    record {
      same_pool = (done.same.0.0 ∙ c.acquire-guard.ensures.same.0, refl);
      made = made_by _ _ _ _ _ _ held.1 held.2 held.4 held.5 done.stepped;
    }
