use Rattle.std.proofs.Common.{arith}
use Rattle.base.proofs.tree.Strips.{record-count}
use Rattle.group_plans.proofs.sealed_objects.SealedObjectsSealedSource.record_check.Goals as goal

pub record_number-key-requires : goal.record_number-key-requires
record_number-key-requires c = omega (arith, c.number.ensures, c.requires.strip, c.requires.index, record-count)
