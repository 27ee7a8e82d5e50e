use Rattle.std.proofs.Common.{refl}
use Rattle.pool_tables.specs.Shows.{pool_shown}
use Rattle.pool_tables_clients.proofs.Passed.{stepped}
use Rattle.pool_tables_clients.proofs.ready.a_running_sync_goes_on.Goals as goal

pub returns-clause-goes_on : goal.returns-clause-goes_on
returns-clause-goes_on g c =
    (stepped (pool_shown c.args.pool.now) (pool_shown c.sync_step.new.self) 9 c.sync_step.result (rw (c.requires.running, c.requires.syncing) refl) c.requires.syncing c.sync_step.ensures.step).0

pub returns-clause-refused : goal.returns-clause-refused
returns-clause-refused g c =
    (stepped (pool_shown c.args.pool.now) (pool_shown c.sync_step.new.self) 9 c.sync_step.result (rw (c.requires.running, c.requires.syncing) refl) c.requires.syncing c.sync_step.ensures.step).1
