use Rattle.std.proofs.Common.{refl, sym, subst, ◌∙◌}
use Rattle.pool_threads.proofs.Served.{one_served}
use Rattle.pool_threads.specs.Views.{Explains}
use Rattle.pool_threads.proofs.handle.Handle.serve.Goals as goal

pub serve_turn-reply-requires-clause-explains : goal.serve_turn-reply-requires-clause-explains
serve_turn-reply-requires-clause-explains g c =
    let held = c.acquire-guard.ensures.held in
    subst (λ v. Explains c.acquire-guard.result.held.value.value v) (sym c.acquire-guard.ensures.view) held.3

pub returns-clause-served : goal.returns-clause-served
returns-clause-served g c =
    let held = c.acquire-guard.ensures.held in
    let done = c.serve_turn-reply.ensures in
    record {
      same_pool = (done.same.0.0 ∙ c.acquire-guard.ensures.same.0, refl);
      made = one_served _ _ _ _ _ _ held.1 held.2 held.4 held.5 done.served;
    }
