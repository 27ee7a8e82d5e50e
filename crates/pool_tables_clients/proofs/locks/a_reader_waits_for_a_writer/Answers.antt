use Rattle.std.proofs.Common.{refl}
use Rattle.base.specs.declared.error.PoolError.TheVariants as error
use Rattle.pool_tables.specs.Shows.{pool_shown}
use Rattle.pool_tables.specs.StepAnswers.{lock_number}
use Rattle.pool_tables_clients.proofs.Callers.{refused_as}
use Rattle.pool_tables.proofs.OfNoDevice.{some_past}
use Rattle.pool_tables_clients.proofs.locks.a_reader_waits_for_a_writer.Goals as goal

pub returns-clause-refused : goal.returns-clause-refused
returns-clause-refused c =
    (refused_as lock_number _ error.Busy c.lock.result (pool_shown c.args.pool.now) (pool_shown c.lock.new.self) _ _ _ _ (rw (c.requires.running, c.requires.held) refl) (c.lock.ensures.step (some_past (pool_shown c.args.pool.now))).1).0

pub returns-clause-unchanged : goal.returns-clause-unchanged
returns-clause-unchanged c =
    (refused_as lock_number _ error.Busy c.lock.result (pool_shown c.args.pool.now) (pool_shown c.lock.new.self) _ _ _ _ (rw (c.requires.running, c.requires.held) refl) (c.lock.ensures.step (some_past (pool_shown c.args.pool.now))).1).1
