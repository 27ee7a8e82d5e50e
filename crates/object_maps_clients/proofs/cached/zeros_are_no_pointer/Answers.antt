use Rattle.std.proofs.Common.{arith}
use Rattle.std.proofs.Common.{inl}
use Rattle.base.proofs.tree.Strips.{first-low}
use Rattle.object_maps_clients.proofs.cached.zeros_are_no_pointer.Goals as goal

pub returns-clause-pointer : goal.returns-clause-pointer
returns-clause-pointer c = rw c.requires.zeros at c.record_pointer.ensures.pointer

pub returns-clause-undamaged : goal.returns-clause-undamaged
returns-clause-undamaged c = c.record_pointer.ensures.sound (inl c.requires.zeros)

pub record_pointer-requires-clause-number : goal.record_pointer-requires-clause-number
record_pointer-requires-clause-number c = first-low 7 (omega arith)
