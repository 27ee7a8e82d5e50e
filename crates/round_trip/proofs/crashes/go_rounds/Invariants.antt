use Rattle.std.proofs.Common.{◌+◌, ◌≤◌, vec_len, vec_capacity}
use Rattle.std.specs.Vec.Iter.{into_iter_items, into_iter_len}
use Rattle.round_trip.specs.Crashes.{GoesOnAs}
use Rattle.round_trip.proofs.crashes.go_rounds.Given as goal

-- there is room for an answer to each round that is left, and those rounds go on from the answers so far
abbrev pub invariant-loop-round : goal.invariant-loop-round
invariant-loop-round l =
    (goal.iterator-loop-round).can_next l.round-iterator ×
    (goal.iterator-loop-round).is_finite l.round-iterator ×
    (vec_len l.answers + into_iter_len l.round-iterator ≤ vec_capacity l.answers) ×
    GoesOnAs l.fn.rounds.items (into_iter_items l.round-iterator) l.answers.items l.fn.device.disk l.device.disk
