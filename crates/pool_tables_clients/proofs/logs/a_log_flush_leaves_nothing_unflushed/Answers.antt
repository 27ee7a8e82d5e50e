use Rattle.pool_tables_clients.proofs.Callers.{all_flushed}
use Rattle.pool_tables_clients.proofs.logs.a_log_flush_leaves_nothing_unflushed.Goals as goal

pub returns : goal.returns
returns g c = all_flushed c.log_flush.result (g.D.SectorDevice.disk c.args.device.now) (g.D.SectorDevice.disk c.log_flush.new.device) (c.log_flush.ensures.flushed c.requires)
