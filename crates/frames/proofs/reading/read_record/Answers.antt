use Rattle.std.proofs.Common.{arith, inr}
use Rattle.frames.proofs.Fields.{found_is, none_found}
use Rattle.frames.proofs.reading.read_record.Goals as goal

pub returns-in-Ok-Some : goal.returns-in-Ok-Some
returns-in-Ok-Some c = found_is c.args.bytes.now c.in-Ok-Some.committed c.in-Ok-Some.rest.now (rw c.in-Ok-Some.field-0-is at c.in-Ok-Some.ensures.found)

pub returns-in-Ok-None : goal.returns-in-Ok-None
returns-in-Ok-None c = inr (none_found c.args.bytes.now (λ i. omega (arith, c.type_inv.bytes i)) (rw c.in-Ok-None.field-0-is at c.in-Ok-None.ensures.none))
