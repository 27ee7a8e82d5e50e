use Rattle.std.proofs.Common.{arith}
use Rattle.range_locks.proofs.parts.Parts.next_part.Goals as goal

pub returns-then-begin-high-clause-before : goal.returns-then-begin-high-clause-before
returns-then-begin-high-clause-before c = c.in-Some.ensures.2

pub returns-else-begin-high-clause-none : goal.returns-else-begin-high-clause-none
returns-else-begin-high-clause-none c = λ k from below. c.in-Some.ensures.2 k from (omega (arith, c.if-begin-high.false))

pub returns-in-None-clause-none : goal.returns-in-None-clause-none
returns-in-None-clause-none c = λ k from below. c.in-None.ensures k from
