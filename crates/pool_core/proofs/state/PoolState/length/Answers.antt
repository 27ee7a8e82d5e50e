use Rattle.std.proofs.Common.{refl}
use Rattle.pool_tables.specs.Shows.{pool_shown}
use Rattle.pool_tables.proofs.OfNoDevice.{length_own, own_counts}
use Rattle.pool_core.proofs.state.PoolState.length.Goals as goal

pub returns-clause-no_call : goal.returns-clause-no_call
returns-clause-no_call g c =
    let s = pool_shown c.args.self.now.pool in
    record { device = refl; own = own_counts c.length.result (length_own s s c.args.object.0 c.length.result c.length.ensures) }
