use Rattle.std.proofs.Common.{refl}
use Rattle.pool_tables.specs.Shows.{pool_shown}
use Rattle.pool_tables_clients.proofs.Passed.{closed}
use Rattle.pool_tables_clients.proofs.ready.an_open_group_is_closed.Goals as goal

pub returns-clause-opened : goal.returns-clause-opened
returns-clause-opened c =
    (closed (pool_shown c.args.pool.now) (pool_shown c.close_group.new.self) 9 c.close_group.result (rw (c.requires.running, c.requires.none, c.requires.last) refl) c.requires.last c.close_group.ensures.step).0

pub returns-clause-closed : goal.returns-clause-closed
returns-clause-closed c =
    (closed (pool_shown c.args.pool.now) (pool_shown c.close_group.new.self) 9 c.close_group.result (rw (c.requires.running, c.requires.none, c.requires.last) refl) c.requires.last c.close_group.ensures.step).1
