use Rattle.std.proofs.Common.{refl}
use Rattle.pool_tables.specs.Shows.{pool_shown}
use Rattle.pool_tables.proofs.OfNoDevice.{own_counts, unlock_own}
use Rattle.pool_core.proofs.state.PoolState.unlock.Goals as goal

pub returns-clause-unmoved : goal.returns-clause-unmoved
returns-clause-unmoved g c =
    let own = unlock_own (pool_shown c.args.self.now.pool) (pool_shown c.unlock.new.self) c.args.owner.0 c.args.id.0 c.unlock.result c.unlock.ensures.step in
    record { no_call = record { device = refl; own = own_counts c.unlock.result own }; kept = c.unlock.ensures.tree }
