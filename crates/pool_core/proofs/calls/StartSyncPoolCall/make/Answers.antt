use Rattle.pool_core.proofs.MadeSteps.{start_step}
use Rattle.pool_core.proofs.calls.StartSyncPoolCall.make.Goals as goal

pub returns : goal.returns
returns g c = start_step g.met.D.SectorDevice.sized c.start_sync.ensures.step c.start_sync.ensures.held c.start_sync.ensures.leads c.start_sync.ensures.unchanged c.start_sync.ensures.reads
