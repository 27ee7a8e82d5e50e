use Rattle.std.proofs.Common.{refl}
use Rattle.pool_tables.specs.Shows.{pool_shown}
use Rattle.pool_tables_clients.proofs.Passed.{marked}
use Rattle.pool_tables_clients.proofs.ready.a_group_without_a_transaction_is_quiesced.Goals as goal

pub returns-clause-marked : goal.returns-clause-marked
returns-clause-marked c =
    (marked (pool_shown c.args.pool.now) (pool_shown c.mark_quiesced.new.self) 9 c.mark_quiesced.result (rw (c.requires.running, c.requires.closed, c.requires.none) refl) (rw c.requires.closed refl) c.mark_quiesced.ensures.step).0

pub returns-clause-quiesced : goal.returns-clause-quiesced
returns-clause-quiesced c =
    (marked (pool_shown c.args.pool.now) (pool_shown c.mark_quiesced.new.self) 9 c.mark_quiesced.result (rw (c.requires.running, c.requires.closed, c.requires.none) refl) (rw c.requires.closed refl) c.mark_quiesced.ensures.step).1
