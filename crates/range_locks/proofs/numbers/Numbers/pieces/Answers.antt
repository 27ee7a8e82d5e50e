use Rattle.std.proofs.Common.{sym, ◌∙◌}
use Rattle.range_locks.proofs.NumberParts.{no_ends}
use Rattle.range_locks.proofs.PieceWalk.{no_pieces}
use Rattle.range_locks.proofs.numbers.Numbers.pieces.Goals as goal

pub returns-in-None-clause-pieces : goal.returns-in-None-clause-pieces
returns-in-None-clause-pieces c = λ held was. c.new.ensures.items ∙ sym (no_pieces c.args.number.0 held.locks (no_ends _ c.in-None.ensures.value _ (was.is c.args.number.0)))
