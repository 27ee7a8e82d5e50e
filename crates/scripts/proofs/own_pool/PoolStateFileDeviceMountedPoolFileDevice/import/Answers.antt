use Rattle.std.proofs.Common.{Bool, ap, subst, sym, ◌∙◌}
use Rattle.file_devices.specs.FileState.{size_of}
use Rattle.std.proofs.Math.Logic.{∥∥₁_map}
use Rattle.scripts.proofs.OwnRuns.{begins_run}
use Rattle.scripts.specs.OwnPools.{BeginsRun}
use Rattle.scripts.proofs.own_pool.PoolStateFileDeviceMountedPoolFileDevice.import.Goals as goal

pub returns-in-Ok-clause-mounted : goal.returns-in-Ok-clause-mounted
returns-in-Ok-clause-mounted g c = record {
  device = c.in-Ok.imported.device;
  mounted = c.in-Ok.imported.mounted;
  imported = c.in-Ok.ensures.run;
  told_is = c.in-Ok.ensures.answer;
  mounts = record { device_is = c.new.ensures.device; cache_is = c.new.ensures.cache ∙ c.in-Ok.ensures.cache; shown_is = c.new.ensures.shown };
}

pub returns-in-Ok-clause-begun : goal.returns-in-Ok-clause-begun
returns-in-Ok-clause-begun g c = λ keep past was.
    let i = c.in-Ok.imported in
    subst (λ n. ∥ BeginsRun past n c.new.result ∥₁) c.in-Ok.ensures.run.limit
    (begins_run keep past c.args.device.disk i.mounted i.cache.cap i.device c.new.result was (c.in-Ok.ensures.starts keep) (c.in-Ok.ensures.own keep) (ap (λ (b : Bool). size_of b i.device) (sym keep) ∙ i.sized)
    (record { device_is = c.new.ensures.device; cache_is = c.new.ensures.cache; shown_is = c.new.ensures.shown }) (∥∥₁_map c.new.ensures.held (λ held. held keep)) c.new.ensures.safe)
