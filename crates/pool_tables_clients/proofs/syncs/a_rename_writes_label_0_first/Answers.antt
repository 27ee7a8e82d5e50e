use Rattle.base.specs.disk.Disk.{bytes_of}
use Rattle.pool_tables.specs.Told.{pool_told}
use Rattle.pool_tables_clients.proofs.Renames.{label_0_put}
use Rattle.pool_tables_clients.proofs.syncs.a_rename_writes_label_0_first.Goals as goal

pub returns : goal.returns
returns g c =
    let old = pool_told c.args.pool.now (bytes_of (g.B.SectorDevice.disk c.args.device.now).now) in
    let new = pool_told c.sync_step.new.self (bytes_of (g.B.SectorDevice.disk c.sync_step.new.device).now) in
    label_0_put old new c.sync_step.result (c.sync_step.ensures.leads c.requires.keeps)
