use Rattle.std.proofs.Common.{◌≡◌, ◌+◌, ◌≤◌, vec_len, vec_capacity}
use Rattle.std.specs.Vec.Iter.{into_iter_items, into_iter_len}
use Rattle.pool_core.proofs.MadeRuns.{GoesOn}
use Rattle.pool_core.proofs.runs.run.Given as goal

-- there is room for a reply to each step that is left, and a run of those steps goes on from the replies so far
abbrev pub invariant-loop-step : goal.invariant-loop-step
invariant-loop-step g l =
    (goal.iterator-loop-step g).can_next l.step-iterator ×
    (goal.iterator-loop-step g).is_finite l.step-iterator ×
    (vec_len l.replies + into_iter_len l.step-iterator ≤ vec_capacity l.replies) ×
    (vec_len l.replies + into_iter_len l.step-iterator ≡ vec_len l.fn.steps) ×
    GoesOn l.fn.steps.items (into_iter_items l.step-iterator) l.replies.items l.fn.state l.state
