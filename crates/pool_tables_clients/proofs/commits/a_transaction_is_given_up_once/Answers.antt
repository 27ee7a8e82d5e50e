use Rattle.std.proofs.Common.{refl}
use Rattle.base.specs.declared.error.PoolError.TheVariants as error
use Rattle.pool_tables.specs.Shows.{pool_shown}
use Rattle.pool_tables_clients.proofs.Callers.{given_up}
use Rattle.pool_tables.proofs.Callers.{refused_by}
use Rattle.pool_tables.proofs.OfNoDevice.{some_past}
use Rattle.pool_tables_clients.proofs.commits.a_transaction_is_given_up_once.Goals as goal

pub returns : goal.returns
returns c =
    let middle = pool_shown c.abort.new.self in
    let ended = given_up (pool_shown c.args.pool.now) middle c.args.tx.0 c.abort.result c.requires c.abort.ensures.step in
    (refused_by _ error.NoSuchTransaction c.abort-2.result middle (pool_shown c.abort-2.new.self) _ _ _ _ (rw (ended.0, ended.1) refl) (c.abort-2.ensures.step (some_past middle)).1).0
