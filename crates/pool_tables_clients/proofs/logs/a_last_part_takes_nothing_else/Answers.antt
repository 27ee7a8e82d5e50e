use Rattle.std.proofs.Common.{arith}
use Rattle.pool_tables.specs.Shows.{pool_shown}
use Rattle.pool_tables_clients.proofs.Callers.{ended_one}
use Rattle.pool_tables_clients.proofs.logs.a_last_part_takes_nothing_else.Goals as goal

pub returns-clause-count : goal.returns-clause-count
returns-clause-count g c =
    let size = c.requires.size in
    ((ended_one (pool_shown c.args.pool.now) (pool_shown c.log_write.new.self) c.log_write.result _ c.requires.begun c.log_write.ensures.step).0 (omega (arith, size))).0

pub returns-clause-whole : goal.returns-clause-whole
returns-clause-whole g c =
    let size = c.requires.size in
    ((ended_one (pool_shown c.args.pool.now) (pool_shown c.log_write.new.self) c.log_write.result _ c.requires.begun c.log_write.ensures.step).0 (omega (arith, size))).1

pub returns-clause-pending : goal.returns-clause-pending
returns-clause-pending g c = (ended_one (pool_shown c.args.pool.now) (pool_shown c.log_write.new.self) c.log_write.result _ c.requires.begun c.log_write.ensures.step).2
