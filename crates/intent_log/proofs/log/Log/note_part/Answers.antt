use Rattle.std.proofs.Common.{◌∙◌, arith, sym}
use Rattle.intent_log.proofs.Fillings.{more_left}
use Rattle.intent_log.proofs.log.Log.note_part.Goals as goal

pub overflow_add-begun : goal.overflow_add-begun
overflow_add-begun c =
    let b = c.in-Some.begun in
    let more = more_left b (sym c.is_at_last_part.ensures ∙ c.if-is_at_last_part.false) in
    omega (arith, more, b.bytes.ok.0, b.bytes.small)
