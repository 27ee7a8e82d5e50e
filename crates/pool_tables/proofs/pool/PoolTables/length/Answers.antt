use Rattle.std.proofs.lemmas.Result.{err_from_is_err_and}
use Rattle.pool_tables.specs.Shows.{pool_shown}
use Rattle.pool_tables.proofs.ToldContents.{length_found, length_suspended}
use Rattle.pool_tables.proofs.pool.PoolTables.length.Goals as goal

pub returns-in_err-check_running : goal.returns-in_err-check_running
returns-in_err-check_running c =
    let p = err_from_is_err_and c.from_residual.result c.from_residual.ensures.1 in
    let told = c.in_err-check_running.ensures in
    rw (p.1, p.2, told.0) (length_suspended c.args.object.0 (pool_shown c.args.self.now) told.1)

pub returns : goal.returns
returns c = length_found c.args.object.0 c.object_length.result (pool_shown c.args.self.now) c.in_ok-check_running.ensures c.object_length.ensures
