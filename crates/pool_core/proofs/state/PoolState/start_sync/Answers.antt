use Rattle.std.proofs.Common.{sym, subst}
use Rattle.base.specs.disk.Disk.{Disk, bytes_of}
use Rattle.pool_core.specs.Starts.{StartsInOrder}
use Rattle.pool_tables.specs.SyncStarts.{StartsHeldOver}
use Rattle.pool_tables.specs.Told.{Leads, pool_told, start_reply}
use Rattle.pool_core.proofs.state.PoolState.start_sync.Goals as goal

pub returns-clause-held : goal.returns-clause-held
returns-clause-held g c = λ keeps.
    subst (λ (d : Disk). StartsHeldOver c.args.moment c.start_sync.result (pool_told c.args.self.now.pool (bytes_of (g.D.SectorDevice.disk c.args.self.now.device.device).now)) (pool_told c.start_sync.new.self (bytes_of d.now)))
    (sym (c.start_sync.ensures.reads.disk keeps)) (c.start_sync.ensures.start.held keeps)

pub returns-clause-order : goal.returns-clause-order
returns-clause-order g c = λ keeps.
    subst (λ (d : Disk). StartsInOrder c.start_sync.result (pool_told c.args.self.now.pool (bytes_of (g.D.SectorDevice.disk c.args.self.now.device.device).now)) (pool_told c.start_sync.new.self (bytes_of d.now)))
    (sym (c.start_sync.ensures.reads.disk keeps)) (c.start_sync.ensures.start.order keeps)

pub returns-clause-leads : goal.returns-clause-leads
returns-clause-leads g c = λ keeps.
    subst (λ (d : Disk). Leads (start_reply c.start_sync.result) (pool_told c.args.self.now.pool (bytes_of (g.D.SectorDevice.disk c.args.self.now.device.device).now)) (pool_told c.start_sync.new.self (bytes_of d.now)))
    (sym (c.start_sync.ensures.reads.disk keeps)) (c.start_sync.ensures.start.leads keeps)

pub returns-clause-reads : goal.returns-clause-reads
returns-clause-reads g c = record { size = c.start_sync.ensures.reads.size; disk = c.start_sync.ensures.reads.disk; count = c.start_sync.ensures.reads.count }
