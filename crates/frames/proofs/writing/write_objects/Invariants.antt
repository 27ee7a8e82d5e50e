use Rattle.std.proofs.Common.{take}
use Rattle.std.specs.List.{flat_map}
use Rattle.frames.specs.Answers.{bytes_of_listed}
use Rattle.records.specs.Writing.{AppendsBytes}
use Rattle.frames.proofs.writing.write_objects.Given as goal

-- those so far are appended
abbrev pub invariant-loop-object : goal.invariant-loop-object
invariant-loop-object l = AppendsBytes l.initial.out l.out (flat_map bytes_of_listed (take l.object-index l.listed))
