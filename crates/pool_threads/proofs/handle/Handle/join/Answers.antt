use Rattle.std.proofs.Common.{refl}
use Rattle.pool_threads.proofs.handle.Handle.join.Goals as goal

pub returns : goal.returns
returns g c =
    let same = c.join.ensures.same in
    let both = c.join.ensures.both in
    record { same_pool = (same.0.0, refl); own = both.1; other = both.2; turns = same.1; taken = c.join.ensures.taken; number = same.2 }
