use Rattle.std.proofs.Common.{ap, refl, sym, subst, ◌∙◌}
use Rattle.std.specs.Prelude.{IsTrue}
use Rattle.pool_core.specs.States.{shown}
use Rattle.pool_threads.proofs.OneTurn.{one_done}
use Rattle.pool_threads.proofs.TransactLoops.{open_seen}
use Rattle.pool_threads.specs.Transacts.{IsOpenGroupTurn}
use Rattle.pool_threads.specs.Views.{Explains}
use Rattle.word_lock.specs.Seats.{seen}
use Rattle.word_lock.specs.Turns.{turn}
use Rattle.pool_threads.proofs.handle.Handle.serve_open_group.Goals as goal

pub serve_turn-reply-requires-clause-explains : goal.serve_turn-reply-requires-clause-explains
serve_turn-reply-requires-clause-explains g c =
    let held = c.acquire-guard.ensures.held in
    subst (λ v. Explains c.acquire-guard.result.held.value.value v) (sym c.acquire-guard.ensures.view) held.3

pub returns : goal.returns
returns g c =
    let held = c.acquire-guard.ensures.held in
    let done = c.serve_turn-reply.ensures in
    let open_then = open_seen c.acquire-guard.result.held.value.value (seen c.acquire-guard.result.seat.now) c.open_group-group.result held.3 (c.open_group-group.ensures ∙ ap (λ p. (shown p).line.open_group) c.deref.ensures) in
    record {
      same_pool = (done.same.0.0 ∙ c.acquire-guard.ensures.same.0, refl);
      made = one_done (λ v w. IsOpenGroupTurn (IsTrue g.D.SectorDevice.keeps_model) c.args.moment c.serve_turn-reply.result.0 (turn v w)) _ c.args.self.now.seat c.acquire-guard.result.seat.now _ held.1 held.2 held.4 held.5
          (record { made = (c.open_group-group.result, open_then, done.served.made); turn = done.served.turn });
    }
