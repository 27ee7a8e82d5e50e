use Rattle.std.proofs.Common.{◌≡◌, ℕ, ◌<◌}
use Rattle.object_names.specs.NameTables.{name_at}
use Rattle.object_names.proofs.name_table.first_with.Given as goal

abbrev pub invariant-loop-number : goal.invariant-loop-number
invariant-loop-number l = (k : ℕ) → 0 < k → k < l.number → name_at l.bytes k ≡ l.name → ⊥
