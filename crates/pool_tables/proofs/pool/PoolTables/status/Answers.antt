use Rattle.pool_tables.specs.Shows.{pool_shown}
use Rattle.std.proofs.Common.{◌∙◌, sym}
use Rattle.pool_tables.proofs.Charges.{pool_totals, status_told}
use Rattle.pool_tables.proofs.pool.PoolTables.status.Goals as goal

pub returns : goal.returns
returns c =
    let pool = c.args.self.now in
    status_told (pool_shown pool) _ c.synced.ensures c.syncing.ensures c.middle.ensures c.open_group.ensures.open_group (c.total.ensures.total ∙ sym (pool_totals pool).dirty) c.free_count.ensures c.available.ensures
