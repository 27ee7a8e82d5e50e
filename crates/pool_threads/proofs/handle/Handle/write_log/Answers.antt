use Rattle.std.proofs.Common.{refl, sym, subst, ◌∙◌}
use Rattle.std.specs.Prelude.{IsTrue}
use Rattle.pool_threads.proofs.OneTurn.{one_done}
use Rattle.pool_threads.specs.Views.{Explains}
use Rattle.pool_threads.specs.Waits.{IsLogTurn}
use Rattle.word_lock.specs.Turns.{turn}
use Rattle.pool_threads.proofs.handle.Handle.write_log.Goals as goal

pub log_turn-reply-requires-clause-explains : goal.log_turn-reply-requires-clause-explains
log_turn-reply-requires-clause-explains g c =
    let held = c.acquire-guard.ensures.held in
    subst (λ v. Explains c.acquire-guard.result.held.value.value v) (sym c.acquire-guard.ensures.view) held.3

pub returns : goal.returns
returns g c =
    let held = c.acquire-guard.ensures.held in
    let done = c.log_turn-reply.ensures in
    record {
      same_pool = (done.same.0.0 ∙ c.acquire-guard.ensures.same.0, refl);
      made = one_done (λ v w. IsLogTurn (IsTrue g.D.SectorDevice.keeps_model) c.args.receipt c.log_turn-reply.result.0 c.log_turn-reply.result.1 (turn v w)) _ _ _ _ held.1 held.2 held.4 held.5 done.done;
    }
