use Rattle.std.proofs.Common.{ℕ, List, Contains, ap, subst}
use Rattle.std.proofs.Math.Logic.{∥∥₁_map}
use Rattle.lru.specs.LruCache.{LruCache}
use Rattle.base.specs.disk.Disk.{bytes_of}
use Rattle.block_cache.proofs.CachedBlocks.{left-agrees, removed-gone, removed-left}
use Rattle.block_cache.proofs.cached_device.CachedDeviceBlockReader.forget.Goals as goal

pub invariant_of-self : goal.invariant_of-self
invariant_of-self g c = record {
  agrees = ∥∥₁_map c.args.self.now.agrees (λ agrees. λ keeps.
      left-agrees (bytes_of (g.D.SectorDevice.disk c.args.self.now.device).now) c.args.self.now.cache.entries c.drop_block.new.self.entries
      (removed-left c.args.address _ _ (ap (λ (l : LruCache ℕ (List ℕ)). l.entries) c.drop_block.ensures.removed)) (agrees keeps));
}

pub returns-clause-left : goal.returns-clause-left
returns-clause-left g c = removed-left c.args.address _ _ (ap (λ (l : LruCache ℕ (List ℕ)). l.entries) c.drop_block.ensures.removed)

pub returns-clause-gone : goal.returns-clause-gone
returns-clause-gone g c = λ payload there.
    removed-gone c.args.address c.args.self.now.cache.entries payload c.drop_block.ensures.distinct
    (subst (λ (es : List (ℕ × List ℕ)). Contains es (c.args.address, payload)) (ap (λ (l : LruCache ℕ (List ℕ)). l.entries) c.drop_block.ensures.removed) there)
