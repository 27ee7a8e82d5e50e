use Rattle.std.proofs.Common.{◌≡◌, ℕ, ◌<◌, []}
use Rattle.object_names.specs.NameTables.{name_at}
use Rattle.object_names.proofs.name_table.are_distinct.Given as goal

abbrev pub invariant-loop-number : goal.invariant-loop-number
invariant-loop-number l = (m n : ℕ) → 0 < m → m < n → n < l.number → name_at l.bytes m ≡ name_at l.bytes n → name_at l.bytes n ≡ []
