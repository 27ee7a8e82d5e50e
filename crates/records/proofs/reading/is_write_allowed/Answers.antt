use Rattle.std.proofs.Common.{arith}
use Rattle.records.proofs.AllowedOps.{write_is_allowed}
use Rattle.records.proofs.reading.is_write_allowed.Goals as goal

pub returns : goal.returns
returns c = write_is_allowed c.args.content.now _ c.is_shape_allowed.result (λ i. omega (arith, c.type_inv.content i)) c.is_shape_allowed.ensures
