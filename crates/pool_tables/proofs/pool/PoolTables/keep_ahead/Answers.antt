use Rattle.pool_tables.proofs.pool.PoolTables.keep_ahead.Goals as goal

pub invariant_of-self-clause-unsynced_kept : goal.invariant_of-self-clause-unsynced_kept
invariant_of-self-clause-unsynced_kept c = rw c.keep_ahead.ensures c.args.self.now.unsynced_kept

pub invariant_of-self-clause-logged : goal.invariant_of-self-clause-logged
invariant_of-self-clause-logged c = rw c.keep_ahead.ensures c.args.self.now.logged

pub invariant_of-self-clause-log_placed : goal.invariant_of-self-clause-log_placed
invariant_of-self-clause-log_placed c = rw c.keep_ahead.ensures c.args.self.now.log_placed

pub invariant_of-self-clause-sync_header : goal.invariant_of-self-clause-sync_header
invariant_of-self-clause-sync_header c = rw c.keep_ahead.ensures c.args.self.now.sync_header
