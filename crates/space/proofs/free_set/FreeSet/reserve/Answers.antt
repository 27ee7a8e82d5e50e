use Rattle.std.proofs.Common.{◌≤◌, ◌+◌, length, arith}
use Rattle.std.specs.FinSet as set
use Rattle.base.specs.steps.Charges.{available_of}
use Rattle.space.specs.FreeSets.{most_taken}
use Rattle.space.specs.Flags.{free_of}
use Rattle.space.proofs.Counts.{free_of-le, reserve_fits}
use Rattle.space.proofs.free_set.FreeSet.reserve.Goals as goal

fits : (c : goal.Else-kept_back-available) → c.self.inside.reserved + c.args.count ≤ length c.self.inside.flags + most_taken
fits c =
    let inside = c.self.inside in
    let few = free_of-le inside.flags in
    let asked : c.args.count ≤ available_of (set.len (free_of inside.flags)) inside.reserved inside.taken =
    (let count = rw (← c.self.view_is) at c.available-available.ensures.count in let low = c.if-count-available.false in omega (arith, count, low)) in
    reserve_fits (set.len (free_of inside.flags)) inside.reserved inside.taken c.args.count (length inside.flags) most_taken asked
    few c.self.invariant.taken c.self.invariant.reserved

pub overflow_add-self : goal.overflow_add-self
overflow_add-self c = let h = fits c in omega (arith, h, c.self.invariant.small)

pub invariant_of-self : goal.invariant_of-self
invariant_of-self c = record { small = c.self.invariant.small; count = c.self.invariant.count; hint = c.self.invariant.hint; taken = c.self.invariant.taken; reserved = fits c.before }
