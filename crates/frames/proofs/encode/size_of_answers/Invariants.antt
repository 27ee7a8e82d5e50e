use Rattle.std.proofs.Common.{◌≡◌, ◌+◌, ◌≤◌, length, take}
use Rattle.std.specs.List.{flat_map}
use Rattle.frames.specs.Answers.{bytes_of_answer}
use Rattle.frames.proofs.encode.size_of_answers.Given as goal

-- the size so far, which is within the limit
abbrev pub invariant-loop-answer : goal.invariant-loop-answer
invariant-loop-answer l = (l.size ≤ 4194304) × (l.size ≡ 12 + length (flat_map bytes_of_answer (take l.answer-index l.answers)))
