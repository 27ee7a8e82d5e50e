use Rattle.pool_core.proofs.state.PoolState.digest.Goals as goal

pub returns-clause-reads : goal.returns-clause-reads
returns-clause-reads g c = record { size = c.digest.ensures.reads.size; disk = c.digest.ensures.reads.disk; count = c.digest.ensures.reads.count }
