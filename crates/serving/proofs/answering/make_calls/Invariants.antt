use Rattle.std.specs.Prelude.{◌≡◌, ◌≤◌, ◌+◌, vec_len, vec_capacity}
use Rattle.std.specs.Vec.Iter.{into_iter_items, into_iter_len}
use Rattle.serving.proofs.Made.{GoesOn}
use Rattle.serving.proofs.answering.make_calls.Given as goal

-- there is room for an answer to each request that is left, and these go on from the answers so far
abbrev pub invariant-loop-request : goal.invariant-loop-request
invariant-loop-request g l = (goal.iterator-loop-request g).can_next l.request-iterator × (goal.iterator-loop-request g).is_finite l.request-iterator
    × (vec_len l.answers + into_iter_len l.request-iterator ≤ vec_capacity l.answers) × (vec_len l.answers + into_iter_len l.request-iterator ≡ vec_len l.fn.requests)
    × GoesOn l.owner l.fn.requests.items (into_iter_items l.request-iterator) l.answers.items l.fn.handle l.handle
