use Rattle.std.specs.Prelude.{IsTrue}
use Rattle.sync.specs.Calls.{plain_answer}
use Rattle.pool_core.proofs.CachedCalls.{made_inside}
use Rattle.pool_core.proofs.state.PoolState.sync_step.Goals as goal

pub returns-clause-called : goal.returns-clause-called
returns-clause-called g c =
    let pool = c.args.self.now.pool in
    made_inside (IsTrue g.D.SectorDevice.keeps_model) pool.suspended pool.sync (plain_answer c.sync_step.result) c.args.self.now.device c.sync_step.new.device c.sync_step.ensures.called
