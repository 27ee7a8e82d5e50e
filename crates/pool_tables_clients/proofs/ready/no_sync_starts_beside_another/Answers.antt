use Rattle.std.proofs.Common.{refl}
use Rattle.base.specs.declared.error.PoolError.TheVariants as error
use Rattle.pool_tables.specs.Shows.{pool_shown}
use Rattle.pool_tables.specs.StepAnswers.{group_number}
use Rattle.pool_tables_clients.proofs.Callers.{refused_as}
use Rattle.pool_tables_clients.proofs.ready.no_sync_starts_beside_another.Goals as goal

pub returns-clause-refused : goal.returns-clause-refused
returns-clause-refused g c = λ past explained.
    (refused_as group_number _ error.NotReady c.start_sync.result (pool_shown c.args.pool.now) (pool_shown c.start_sync.new.self) _ _ _ _ (rw (c.requires.running, c.requires.quiesced, c.requires.syncing) refl) (c.start_sync.ensures.start.step past explained).1).0

pub returns-clause-unchanged : goal.returns-clause-unchanged
returns-clause-unchanged g c = λ past explained.
    (refused_as group_number _ error.NotReady c.start_sync.result (pool_shown c.args.pool.now) (pool_shown c.start_sync.new.self) _ _ _ _ (rw (c.requires.running, c.requires.quiesced, c.requires.syncing) refl) (c.start_sync.ensures.start.step past explained).1).1
