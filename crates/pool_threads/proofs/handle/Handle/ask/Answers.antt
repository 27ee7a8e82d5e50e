use Rattle.std.proofs.Common.{refl, sym, subst, ◌∙◌}
use Rattle.pool_threads.proofs.Made.{made_by}
use Rattle.pool_threads.specs.Views.{Explains}
use Rattle.pool_threads.proofs.handle.Handle.ask.Goals as goal

pub turn-answer-requires-clause-explains : goal.turn-answer-requires-clause-explains
turn-answer-requires-clause-explains g c =
    let held = c.acquire-guard.ensures.held in
    subst (λ v. Explains c.acquire-guard.result.held.value.value v) (sym c.acquire-guard.ensures.view) held.3

pub returns : goal.returns
returns g c =
    let held = c.acquire-guard.ensures.held in
    let done = c.turn-answer.ensures in
    record {
      same_pool = (done.same.0.0 ∙ c.acquire-guard.ensures.same.0, refl);
      made = made_by _ _ _ _ _ _ held.1 held.2 held.4 held.5 done.stepped;
    }
