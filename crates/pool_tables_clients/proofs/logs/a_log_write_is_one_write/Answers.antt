use Rattle.pool_tables.specs.Shows.{pool_shown}
use Rattle.pool_tables_clients.proofs.Callers.{one_write}
use Rattle.pool_tables_clients.proofs.logs.a_log_write_is_one_write.Goals as goal

pub returns : goal.returns
returns g c =
    one_write c.log_write.result (pool_shown c.args.pool.now) (pool_shown c.log_write.new.self) (g.D.SectorDevice.disk c.args.device.now) (g.D.SectorDevice.disk c.log_write.new.device) (c.log_write.ensures.wrote c.requires.keeps)
