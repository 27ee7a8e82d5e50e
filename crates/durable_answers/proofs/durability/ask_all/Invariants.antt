use Rattle.std.specs.Prelude.{◌≤◌, ◌+◌, vec_len, vec_capacity}
use Rattle.std.specs.Vec.Iter.{into_iter_items, into_iter_len}
use Rattle.durable_answers.proofs.Questions.{AsksOn}
use Rattle.durable_answers.proofs.durability.ask_all.Given as goal

-- there is room for each answer that is left, and these go on from the ones so far
abbrev pub invariant-loop-answer : goal.invariant-loop-answer
invariant-loop-answer g l = (goal.iterator-loop-answer g).can_next l.answer-iterator × (goal.iterator-loop-answer g).is_finite l.answer-iterator
    × (vec_len l.answers + into_iter_len l.answer-iterator ≤ vec_capacity l.answers)
    × AsksOn l.error l.fn.made.items (into_iter_items l.answer-iterator) l.answers.items l.fn.handle l.handle
