use Rattle.std.proofs.Common.{refl}
use Rattle.base.specs.declared.error.PoolError.TheVariants as error
use Rattle.pool_tables.specs.Shows.{pool_shown}
use Rattle.pool_tables.specs.StepAnswers.{group_number}
use Rattle.pool_tables_clients.proofs.Callers.{refused_as}
use Rattle.pool_tables.proofs.OfNoDevice.{some_past}
use Rattle.pool_tables_clients.proofs.ready.a_quiesced_group_is_not_quiesced_again.Goals as goal

pub returns-clause-refused : goal.returns-clause-refused
returns-clause-refused c =
    (refused_as group_number _ error.NotReady c.mark_quiesced.result (pool_shown c.args.pool.now) (pool_shown c.mark_quiesced.new.self) _ _ _ _ (rw (c.requires.running, c.requires.closed) refl) (c.mark_quiesced.ensures.step (some_past (pool_shown c.args.pool.now))).1).0

pub returns-clause-unchanged : goal.returns-clause-unchanged
returns-clause-unchanged c =
    (refused_as group_number _ error.NotReady c.mark_quiesced.result (pool_shown c.args.pool.now) (pool_shown c.mark_quiesced.new.self) _ _ _ _ (rw (c.requires.running, c.requires.closed) refl) (c.mark_quiesced.ensures.step (some_past (pool_shown c.args.pool.now))).1).1
