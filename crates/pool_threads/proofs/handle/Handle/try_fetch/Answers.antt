use Rattle.std.proofs.Common.{refl, sym, subst, ◌∙◌}
use Rattle.std.specs.Prelude.{IsTrue}
use Rattle.pool_threads.proofs.OneTurn.{one_done}
use Rattle.pool_threads.specs.Fetches.{MakesFetch}
use Rattle.pool_threads.specs.Views.{Explains}
use Rattle.pool_threads.proofs.handle.Handle.try_fetch.Goals as goal

pub fetch_turn-requires-clause-explains : goal.fetch_turn-requires-clause-explains
fetch_turn-requires-clause-explains g c =
    let held = c.acquire-guard.ensures.held in
    subst (λ v. Explains c.acquire-guard.result.held.value.value v) (sym c.acquire-guard.ensures.view) held.3

pub returns : goal.returns
returns g c =
    let held = c.acquire-guard.ensures.held in
    let done = c.fetch_turn.ensures in
    record {
      same_pool = (done.same.0.0 ∙ c.acquire-guard.ensures.same.0, refl);
      made = one_done (MakesFetch (IsTrue g.D.SectorDevice.keeps_model) c.args.read.owner c.args.read.object c.args.read.range c.fetch_turn.result) _ _ _ _ held.1 held.2 held.4 held.5 done.done;
    }
