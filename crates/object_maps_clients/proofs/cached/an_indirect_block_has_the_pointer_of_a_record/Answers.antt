use Rattle.std.proofs.Common.{arith}
use Rattle.std.specs.Prelude.{Result, Ok, Err, OnOk}
use Rattle.base.specs.declared.error.PoolError.{PoolError}
use Rattle.base.proofs.tree.Strips.{first-low}
use Rattle.object_maps_clients.proofs.cached.an_indirect_block_has_the_pointer_of_a_record.Goals as goal

then : {P Q : Type 0} (answer : Result (Unit {0}) PoolError) → (P → Q) → OnOk answer P → OnOk answer Q
then (Ok u) f p = f p
then (Err e) f p = tt

pub returns : goal.returns
returns g c = λ keeps pointers bytes holds. then c.read_indirect.result (λ each. each 3 (omega arith)) (c.read_indirect.ensures.exact keeps pointers bytes holds)

pub read_indirect-requires-clause-number : goal.read_indirect-requires-clause-number
read_indirect-requires-clause-number g c = first-low 7 (omega arith)
