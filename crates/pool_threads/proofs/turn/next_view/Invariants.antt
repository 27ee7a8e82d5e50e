use Rattle.base.specs.steps.Runs.{reply_of}
use Rattle.pool_threads.specs.Views.{view_after}
use Rattle.pool_threads.proofs.turn.next_view.Given as goal

-- the view of the pool as it is, with the past after the step
abbrev pub ghost-of : goal.ghost-of
ghost-of g a = view_after (g.C.PoolCall.step a.x.now.1.now.value) (reply_of g.C.PoolCall.reply a.x.now.2.now) a.x.now.0.now.value a.x.now.3.now
