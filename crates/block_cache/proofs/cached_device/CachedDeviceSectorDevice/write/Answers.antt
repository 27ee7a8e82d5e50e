use Rattle.std.proofs.Common.{length, ◌≤◌, ◌+◌}
use Rattle.std.proofs.Math.Logic.{∥∥₁_map}
use Rattle.base.specs.disk.Disk.{disk_size}
use Rattle.block_cache.proofs.CachedDisks.{written-disk_agrees}
use Rattle.block_cache.proofs.cached_device.CachedDeviceSectorDevice.write.Goals as goal

pub invariant_of-self : goal.invariant_of-self
invariant_of-self g c = record {
  agrees = ∥∥₁_map c.args.self.now.agrees (λ agrees. λ keeps.
      let disk = g.D.SectorDevice.disk c.args.self.now.device in
      let fits : c.args.at + length c.args.bytes.now ≤ disk_size disk = rw (g.met.D.SectorDevice.sized keeps c.args.self.now.device) c.requires.within in
      written-disk_agrees disk (g.D.SectorDevice.disk c.write.new.self) c.args.at c.args.bytes.now c.write.result c.args.self.now.cache.entries c.drop_in.new.cache.entries fits c.drop_in.ensures (c.write.ensures.disk keeps) (agrees keeps));
}
