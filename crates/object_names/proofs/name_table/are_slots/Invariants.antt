use Rattle.std.proofs.Common.{ℕ, ◌<◌}
use Rattle.object_names.specs.NameTables.{slot_at}
use Rattle.object_names.specs.Slots.{IsSlot}
use Rattle.object_names.proofs.name_table.are_slots.Given as goal

abbrev pub invariant-loop-number : goal.invariant-loop-number
invariant-loop-number l = (k : ℕ) → 0 < k → k < l.number → IsSlot (slot_at l.bytes k)
