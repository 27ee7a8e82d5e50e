use Rattle.std.proofs.Common.{refl}
use Rattle.pool_tables.specs.Shows.{pool_shown}
use Rattle.pool_tables.proofs.OfNoDevice.{abort_own, own_counts}
use Rattle.pool_core.proofs.state.PoolState.abort.Goals as goal

pub returns-clause-unmoved : goal.returns-clause-unmoved
returns-clause-unmoved g c =
    let own = abort_own (pool_shown c.args.self.now.pool) (pool_shown c.abort.new.self) c.args.tx.0 c.abort.result c.abort.ensures.step in
    record { no_call = record { device = refl; own = own_counts c.abort.result own }; kept = c.abort.ensures.tree }
