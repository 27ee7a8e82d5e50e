use Rattle.std.proofs.Common.{ℕ, ◌<◌}
use Rattle.object_names.specs.NameTables.{IsFree}
use Rattle.object_names.proofs.name_table.NameTable.free_number.Given as goal

abbrev pub invariant-loop-number : goal.invariant-loop-number
invariant-loop-number l = (k : ℕ) → k < l.number → IsFree l.self l.objects k → ⊥
