use Rattle.std.proofs.Math.Logic.{∥∥₁_map}
use Rattle.pool_threads_clients.proofs.long_writes.a_long_write_of_the_only_handle_leaves_nothing_of_its_own.Goals as goal

pub returns-clause-locks : goal.returns-clause-locks
returns-clause-locks g c only = ∥∥₁_map (c.write_long.ensures.released.alone only) (λ r. r.locks)

pub returns-clause-transactions : goal.returns-clause-transactions
returns-clause-transactions g c only = ∥∥₁_map (c.write_long.ensures.released.alone only) (λ r. r.transactions)
