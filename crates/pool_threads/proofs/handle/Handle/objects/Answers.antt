use Rattle.std.proofs.Common.{◌++◌, ◌∷◌, [], ap, refl, sym, subst, ◌∙◌}
use Rattle.std.specs.Prelude.{take}
use Rattle.base.specs.steps.Shown.{Shown}
use Rattle.base.specs.steps.Steps.{State}
use Rattle.pool_core.specs.States.{shown}
use Rattle.pool_threads.proofs.Firsts.{if_ok}
use Rattle.pool_threads.proofs.Looked.{looked_by}
use Rattle.pool_threads.specs.Objects.{objects_from}
use Rattle.pool_threads.specs.Views.{GrowsTo, grows_same, viewed_state}
use Rattle.word_lock.specs.Seats.{seen, turns}
use Rattle.word_lock.specs.Turns.{turn}
use Rattle.pool_threads.proofs.handle.Handle.objects.Goals as goal

pub release-requires-clause-grows : goal.release-requires-clause-grows
release-requires-clause-grows g c =
    let a = c.acquire-guard in
    subst (GrowsTo _ (seen a.result.seat.now)) (sym a.ensures.view) (grows_same _ (seen a.result.seat.now))

pub returns-clause-listed : goal.returns-clause-listed
returns-clause-listed g c =
    let a = c.acquire-guard in
    let r = c.release.ensures in
    let shows = ap (λ p. shown p) c.deref.ensures ∙ sym (ap (λ (s : State). s.shown) a.ensures.held.3.state) ∙ ap (λ v. (viewed_state v).shown) (sym (r.seen ∙ a.ensures.view)) in
    if_ok _ _ c.list_objects-listed.result c.list_objects-listed.ensures.listed (λ list is. record {
      looked = looked_by _ _ _ _ (r.same.0 ∙ a.ensures.same.0, refl) a.ensures.held.1 a.ensures.held.2 a.ensures.held.5 (r.seen ∙ a.ensures.view) (r.turn.0 ∙ ap (λ w. turns a.result.seat.now ++ turn (seen a.result.seat.now) w ∷ []) (sym r.seen)) (r.turn.1.0 ∙ a.ensures.held.4.0, r.turn.1.1 ∙ a.ensures.held.4.1);
      objects = is ∙ ap (λ (s : Shown). take c.args.most (objects_from c.args.from.0 s.contents)) shows;
    })
