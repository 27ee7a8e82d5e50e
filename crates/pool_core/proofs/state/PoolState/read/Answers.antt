use Rattle.pool_core.proofs.state.PoolState.read.Goals as goal

pub returns-clause-reads : goal.returns-clause-reads
returns-clause-reads g c = record { size = c.read.ensures.reads.size; disk = c.read.ensures.reads.disk; count = c.read.ensures.reads.count }
