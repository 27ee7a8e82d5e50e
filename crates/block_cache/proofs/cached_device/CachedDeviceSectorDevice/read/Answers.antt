use Rattle.std.proofs.Math.Logic.{∥∥₁_map}
use Rattle.block_cache.proofs.CachedDisks.{same-agrees}
use Rattle.block_cache.proofs.cached_device.CachedDeviceSectorDevice.read.Goals as goal

pub invariant_of-self : goal.invariant_of-self
invariant_of-self g c = record { agrees = ∥∥₁_map c.args.self.now.agrees (λ agrees. λ keeps. same-agrees _ _ c.args.self.now.cache.entries (c.read.ensures.disk keeps) (agrees keeps)) }
