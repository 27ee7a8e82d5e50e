use Rattle.std.proofs.Common.{ℕ, List, ap}
use Rattle.lru.specs.LruCache.{LruCache}
use Rattle.block_cache.proofs.CachedBlocks.{none-found, none-in-empty}
use Rattle.object_maps_clients.proofs.cached.a_new_cache_has_no_block.Goals as goal

pub returns : goal.returns
returns c = none-found 4096 c.new-cache.result.entries c.copy.result c.copy.new.into (none-in-empty 4096 c.new-cache.result.entries (ap (λ (l : LruCache ℕ (List ℕ)). l.entries) c.new-cache.ensures)) c.copy.ensures.hit
