use Rattle.std.proofs.Common.{ℕ, List, ap, subst}
use Rattle.std.specs.Prelude.{Contains}
use Rattle.lru.specs.LruCache.{LruCache}
use Rattle.block_cache.proofs.CachedBlocks.{none-found, removed-gone}
use Rattle.object_maps_clients.proofs.cached.a_dropped_block_is_not_found.Goals as goal

pub returns : goal.returns
returns c =
    let gone = ap (λ (l : LruCache ℕ (List ℕ)). l.entries) c.drop_block.ensures.removed in
    none-found 4096 c.drop_block.new.self.entries c.copy.result c.copy.new.into
    (λ p there. removed-gone 4096 c.args.cache.now.entries p c.drop_block.ensures.distinct (subst (λ (es : List (ℕ × List ℕ)). Contains es (4096, p)) gone there)) c.copy.ensures.hit
