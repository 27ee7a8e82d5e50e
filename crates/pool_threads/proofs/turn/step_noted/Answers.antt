use Rattle.std.proofs.Common.{ap, sym, subst, ◌∙◌}
use Rattle.base.specs.steps.Runs.{reply_of}
use Rattle.pool_threads.specs.Views.{Explains, view_after}
use Rattle.pool_threads.proofs.Moved.{moved_by}
use Rattle.pool_threads.proofs.Turned.{explained_after, stepped_after}
use Rattle.pool_threads.proofs.turn.step_noted.Goals as goal

pub returns : goal.returns
returns g c =
    let step = c.make-answer.ensures in
    let reply = reply_of g.C.PoolCall.reply c.make-answer.result in
    let moves = moved_by _ _ _ _ step.calls in
    let old = c.args.held.now.view.value in
    let before = subst (λ st. Explains st old) (sym c.deref_mut.ensures.value) c.requires in
    let is = c.next_view.ensures ∙ ap (λ st. view_after (g.C.PoolCall.step c.of-made.result.value) reply old st) c.deref.ensures
    ∙ ap (λ call. view_after (g.C.PoolCall.step call) reply old c.make-answer.new.state) c.of-made.ensures in
    record {
      explains = explained_after _ _ _ c.make-answer.new.state step.turns step.safe moves old before _ is;
      stepped = stepped_after _ _ c.deref_mut.result.now c.make-answer.new.state step.turns step.safe moves old before _ is;
    }
