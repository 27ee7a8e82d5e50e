use Rattle.device_model.specs.Notes.{TellSame}
use Rattle.device_model.proofs.notes.forget.Given as goal

abbrev pub invariant-loop-i : goal.invariant-loop-i
invariant-loop-i l = TellSame l.fn.notes l.notes
