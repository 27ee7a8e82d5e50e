use Rattle.std.proofs.Common.{rules, ap, ◌∙◌}
use Rattle.pool_core.specs.States.{shown}
use Rattle.pool_tables.specs.Duties.{due_step}
use Rattle.pool_threads.proofs.Served.{due_then, more_due, one_due}
use Rattle.pool_threads.proofs.turn.serve_noted.Goals as goal

pub loop-init : goal.loop-init
loop-init g c =
    let found = c.due_step.ensures ∙ ap (λ st. due_step c.args.duty (shown st)) c.deref.ensures in
    let due = due_then c.args.duty c.args.held.now.value.value c.args.held.now.view.value c.due_step.result c.in_ok-step.step c.requires found (search rules) in
    (c.step_replied-reply.ensures.explains, one_due _ _ _ _ _ _ due c.step_replied-reply.ensures.stepped)

pub loop-preserved : goal.loop-preserved
loop-preserved g c =
    let found = c.due_step-in-loop.ensures ∙ ap (λ st. due_step c.args.duty (shown st)) c.deref-in-loop.ensures in
    let due = due_then c.args.duty c.loop.held.value.value c.loop.held.view.value c.due_step-in-loop.result c.in-Some.step c.loop.invariant.0 found c.in-Some.is in
    (c.step_replied-reply-in-Some.ensures.explains, more_due _ _ c.loop.reply _ _ _ _ _ (c.goes_on.ensures.answered (search rules)) c.loop.invariant.1 due c.step_replied-reply-in-Some.ensures.stepped)
