use Rattle.std.proofs.Common.{◌∙◌, inr, refl, subst, sym}
use Rattle.std.proofs.Math.Logic.{∥∥₁_map}
use Rattle.device_model.specs.MemState.{MemState}
use Rattle.device_model.specs.contracts.memory.MemDeviceSectorDevice.TheImpl.{ghosts}
use Rattle.pool_threads.specs.Handles.{LeavesSame}
use Rattle.script_sessions.proofs.SharedRuns.{begins_shared}
use Rattle.scripts.specs.Devices.{IsImportRun}
use Rattle.script_sessions.specs.SharedPools.{IsMountShared}
use Rattle.script_sessions.proofs.shared_pool.SharedPoolMountedPoolMemDevice.import.Goals as goal

pub open-requires : goal.open-requires
open-requires g c = rw c.of-before.ensures (record { starts = c.in-Ok.ensures.starts refl; own = c.in-Ok.ensures.own refl })

pub returns-in-Ok-open-clause-mounted : goal.returns-in-Ok-open-clause-mounted
returns-in-Ok-open-clause-mounted g c =
    let it = c.in-Ok-open.ensures in
    record {
      device = c.in-Ok.found.0.device;
      mounted = c.in-Ok.found.0.mounted;
      imported = c.in-Ok.ensures.run;
      told_is = c.in-Ok.ensures.answer;
      mounts = rw (← c.of-before.ensures, ← c.in-Ok.ensures.cache) (record { opened = it.opened; shown = it.shown; moment_is = it.moment; first = it.first; no_plans = c.new-plans.ensures.none });
    }

pub returns-in-Ok-open-clause-begun : goal.returns-in-Ok-open-clause-begun
returns-in-Ok-open-clause-begun g c = λ keep past was.
    let it = c.in-Ok-open.ensures in
    let i = c.in-Ok.found.0 in
    let mounts : IsMountShared c.args.device.disk i.device.disk i.mounted i.cache.cap c.args.moment _ = rw (← c.of-before.ensures)
    (record { opened = it.opened; shown = it.shown; moment_is = it.moment; first = it.first; no_plans = c.new-plans.ensures.none }) in
    ∥∥₁_map was (λ left. begins_shared past c.args.dirty_max c.args.device.disk i.device.disk i.mounted i.cache.cap c.args.moment _ left c.in-Ok.ensures.run.limit mounts)

pub returns-clause-refused : goal.returns-clause-refused
returns-clause-refused g c =
    let none = c.in-Err-open.ensures.refused in
    let m = c.in-Ok.found.0.mounted in
    inr (none.0, (m, subst (λ (d : MemState). IsImportRun ghosts c.args.dirty_max c.args.moment c.args.device d m) (sym (c.into_device.ensures ∙ none.1)) c.in-Ok.ensures.run))

pub returns-clause-still : goal.returns-clause-still
returns-clause-still g c = λ keep.
    subst (λ (d : MemState). LeavesSame c.args.device.disk d.disk) (sym (c.into_device.ensures ∙ c.in-Err-open.ensures.refused.1)) (c.in-Ok.ensures.still keep)
