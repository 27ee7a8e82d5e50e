use Rattle.std.proofs.Common.{◌≤◌, ◌+◌, ◌-◌, length}
use Rattle.std.specs.Prelude.{min, vec_capacity}
use Rattle.base.specs.formats.Limits.{object_count}
use Rattle.pool_core.specs.States.{shown}
use Rattle.pool_threads.proofs.ListedObjects.{IsListedTo}
use Rattle.pool_threads.proofs.objects.list_objects.Given as goal

-- the objects below this number are listed, and no more than are asked for; there is room for the others
abbrev pub invariant-loop-number : goal.invariant-loop-number
invariant-loop-number g l = IsListedTo l.fn.from.0 l.most (shown l.state).contents l.list.items l.number
    × (length l.list.items ≤ l.most) × (length l.list.items + l.fn.from.0 ≤ l.number) × (min l.most (object_count - l.fn.from.0) ≤ vec_capacity l.list)
