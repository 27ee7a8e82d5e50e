use Rattle.std.proofs.Common.{ℕ, List, ap}
use Rattle.lru.specs.LruCache.{LruCache}
use Rattle.block_cache.proofs.CachedBlocks.{none-found, none-in-empty}
use Rattle.object_maps_clients.proofs.cached.a_cleared_cache_has_no_block.Goals as goal

pub returns : goal.returns
returns c = none-found 4096 c.clear.new.self.entries c.copy.result c.copy.new.into (none-in-empty 4096 c.clear.new.self.entries (ap (λ (l : LruCache ℕ (List ℕ)). l.entries) c.clear.ensures)) c.copy.ensures.hit
