use Rattle.std.proofs.Common.{◌≡◌, ℕ, refl, sym, subst}
use Rattle.std.proofs.Math.Logic.{∥∥₁_map}
use Rattle.base.specs.disk.Disk.{Disk, bytes_of}
use Rattle.device_model.specs.declared.fault.Fault.{Fault}
use Rattle.device_model.specs.declared.fault.Fault.TheVariants.{Read, Write, Flush}
use Rattle.device_model.specs.declared.memory.MemDevice.{MemDevice}
use Rattle.device_model.specs.contracts.memory.MemDeviceSectorDevice.TheImpl.{ghosts}
use Rattle.device_model.specs.Plans.{with_plan}
use Rattle.block_cache.specs.CachedEntries.{AgreesWith}
use Rattle.block_cache.proofs.cached_device.CachedDevice+MemDevice.fail.Goals as goal

-- a plan to fail is no part of the disk
same_disk : (fault : Fault) (n : ℕ) (device : MemDevice) → ghosts.disk (with_plan fault n device) ≡ ghosts.disk device
same_disk Read n device = refl
same_disk Write n device = refl
same_disk Flush n device = refl

pub invariant_of-self : goal.invariant_of-self
invariant_of-self c = record {
  agrees = ∥∥₁_map c.args.self.now.agrees (λ agrees. λ keeps.
      subst (λ (d : MemDevice). AgreesWith (bytes_of (ghosts.disk d).now) c.args.self.now.cache.entries) (sym c.fail.ensures)
      (subst (λ (d : Disk). AgreesWith (bytes_of d.now) c.args.self.now.cache.entries) (sym (same_disk c.args.fault c.args.n c.args.self.now.device)) (agrees keeps)));
}
