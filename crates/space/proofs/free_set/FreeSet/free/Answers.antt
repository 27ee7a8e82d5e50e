use Rattle.std.proofs.Common.{arith}
use Rattle.space.proofs.Counts.{free_of-le}
use Rattle.space.proofs.free_set.FreeSet.free.Goals as goal

pub returns-clause-within : goal.returns-clause-within
returns-clause-within c =
    let few = free_of-le c.self.inside.flags in
    rw (← c.self.view_is) (omega (arith, few, c.self.invariant.count))
