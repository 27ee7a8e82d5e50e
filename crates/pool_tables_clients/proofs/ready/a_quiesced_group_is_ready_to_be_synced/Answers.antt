use Rattle.std.proofs.Common.{refl}
use Rattle.pool_tables.specs.Shows.{pool_shown}
use Rattle.pool_tables_clients.proofs.Passed.{started}
use Rattle.pool_tables_clients.proofs.ready.a_quiesced_group_is_ready_to_be_synced.Goals as goal

pub returns-clause-started : goal.returns-clause-started
returns-clause-started g c = λ past explained.
    (started (pool_shown c.args.pool.now) (pool_shown c.start_sync.new.self) c.args.moment 9 c.start_sync.result (rw (c.requires.running, c.requires.quiesced, c.requires.none) refl) (rw c.requires.quiesced refl) c.start_sync.ensures.start.step past explained).0

pub returns-clause-refused : goal.returns-clause-refused
returns-clause-refused g c = λ past explained.
    (started (pool_shown c.args.pool.now) (pool_shown c.start_sync.new.self) c.args.moment 9 c.start_sync.result (rw (c.requires.running, c.requires.quiesced, c.requires.none) refl) (rw c.requires.quiesced refl) c.start_sync.ensures.start.step past explained).1
