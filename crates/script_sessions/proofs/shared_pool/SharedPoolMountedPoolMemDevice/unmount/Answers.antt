use Rattle.script_sessions.proofs.SharedRuns.{run_left}
use Rattle.script_sessions.proofs.Taken.{device_left}
use Rattle.script_sessions.proofs.shared_pool.SharedPoolMountedPoolMemDevice.unmount.Goals as goal

pub returns : goal.returns
returns g c =
    let given = device_left c.args.self c.unwrap-state.result _ c.args.self.only c.close_after.result c.close_after.ensures.last c.unwrap-state.ensures c.into_device.ensures in
    record { given = given; left = λ keep past run. run_left past c.args.self _ run given }
