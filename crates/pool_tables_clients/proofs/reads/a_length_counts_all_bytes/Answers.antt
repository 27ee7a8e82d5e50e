use Rattle.std.proofs.Common.{refl}
use Rattle.pool_tables.specs.Shows.{pool_shown}
use Rattle.pool_tables_clients.proofs.Callers.{told_length}
use Rattle.pool_tables_clients.proofs.reads.a_length_counts_all_bytes.Goals as goal

pub returns : goal.returns
returns c = told_length (pool_shown c.args.pool.now) 7 100 c.length.result (rw (c.requires.running, c.requires.present) refl) c.requires.present c.length.ensures
