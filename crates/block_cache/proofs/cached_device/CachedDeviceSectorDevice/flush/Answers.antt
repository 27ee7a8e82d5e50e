use Rattle.std.proofs.Math.Logic.{∥∥₁_map}
use Rattle.block_cache.proofs.CachedDisks.{flushed-agrees}
use Rattle.block_cache.proofs.cached_device.CachedDeviceSectorDevice.flush.Goals as goal

pub invariant_of-self : goal.invariant_of-self
invariant_of-self g c = record {
  agrees = ∥∥₁_map c.args.self.now.agrees (λ agrees. λ keeps.
      flushed-agrees (g.D.SectorDevice.disk c.args.self.now.device) (g.D.SectorDevice.disk c.flush.new.self) c.flush.result c.args.self.now.cache.entries (c.flush.ensures.disk keeps) (agrees keeps));
}
