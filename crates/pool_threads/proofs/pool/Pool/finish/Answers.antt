use Rattle.std.proofs.Common.{subst}
use Rattle.pool_threads.specs.Finishes.{SyncsAtEnd}
use Rattle.pool_threads.specs.Handles.{shared_of}
use Rattle.pool_threads.proofs.Finished.{finished_by}
use Rattle.pool_threads.proofs.pool.Pool.finish.Goals as goal

pub returns-in-Ok : goal.returns-in-Ok
returns-in-Ok g c =
    subst (λ r. SyncsAtEnd (shared_of c.args.self) c.args.moment r c.into_device-device.result) c.in-Ok.is
    (finished_by _ _ _ _ _ _ c.in-Some.ensures c.sync_open_group-synced.ensures c.into_device-device.ensures)

pub returns-in-Err : goal.returns-in-Err
returns-in-Err g c =
    subst (λ r. SyncsAtEnd (shared_of c.args.self) c.args.moment r c.into_device-device.result) c.in-Err.is
    (finished_by _ _ _ _ _ _ c.in-Some.ensures c.sync_open_group-synced.ensures c.into_device-device.ensures)
