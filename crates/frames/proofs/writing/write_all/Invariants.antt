use Rattle.std.proofs.Common.{take}
use Rattle.std.specs.List.{flat_map}
use Rattle.frames.specs.Answers.{bytes_of_answer}
use Rattle.records.specs.Writing.{AppendsBytes}
use Rattle.frames.proofs.writing.write_all.Given as goal

-- those so far are appended
abbrev pub invariant-loop-answer : goal.invariant-loop-answer
invariant-loop-answer l = AppendsBytes l.initial.out l.out (flat_map bytes_of_answer (take l.answer-index l.answers))
