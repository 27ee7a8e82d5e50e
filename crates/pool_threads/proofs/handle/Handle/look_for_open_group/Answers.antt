use Rattle.std.proofs.Common.{◌++◌, ◌∷◌, [], ap, refl, sym, subst, ◌∙◌}
use Rattle.pool_threads.proofs.Looked.{looked_by}
use Rattle.pool_threads.specs.Views.{Explains, GrowsTo, grows_same}
use Rattle.word_lock.specs.Seats.{lock_table, seen, turns}
use Rattle.word_lock.specs.Turns.{turn}
use Rattle.pool_threads.proofs.handle.Handle.look_for_open_group.Goals as goal

pub release-requires : goal.release-requires
release-requires g c =
    let a = c.acquire-guard in
    record {
      own = a.ensures.same.0 ∙ c.args.self.now.own ∙ ap (λ l. lock_table l.now) (sym a.ensures.lock);
      held = a.ensures.held.0;
      grows = subst (GrowsTo _ (seen a.result.seat.now)) (sym a.ensures.view) (grows_same _ (seen a.result.seat.now));
      explains = subst (Explains a.result.held.value.value) (sym a.ensures.view) a.ensures.held.3;
    }

pub returns-clause-looked : goal.returns-clause-looked
returns-clause-looked g c =
    let a = c.acquire-guard in
    let r = c.release.ensures in
    looked_by _ _ _ _ (r.same.0 ∙ a.ensures.same.0, refl) a.ensures.held.1 a.ensures.held.2 a.ensures.held.5 (r.seen ∙ a.ensures.view) (r.turn.0 ∙ ap (λ w. turns a.result.seat.now ++ turn (seen a.result.seat.now) w ∷ []) (sym r.seen)) (r.turn.1.0 ∙ a.ensures.held.4.0, r.turn.1.1 ∙ a.ensures.held.4.1)
