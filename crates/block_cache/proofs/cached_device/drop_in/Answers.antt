use Rattle.std.proofs.Common.{ℕ, List, ap, sym, subst, refl, ◌%◌, arith}
use Rattle.lru.specs.LruCache.{LruCache}
use Rattle.block_cache.specs.CachedEntries.{DropsIn}
use Rattle.block_cache.proofs.CachedBlocks.{dropped-in}
use Rattle.block_cache.proofs.cached_device.drop_in.Goals as goal

pub returns-then-start-count : goal.returns-then-start-count
returns-then-start-count c =
    let at = c.args.at in
    subst (λ (es : List (ℕ × List ℕ)). DropsIn at c.args.count c.args.cache.now.entries es) (sym (ap (λ (l : LruCache ℕ (List ℕ)). l.entries) c.drop_block.ensures.removed))
    (dropped-in at (at % 4096) c.args.count c.args.cache.now.entries c.drop_block.ensures.distinct refl (omega (arith, c.if-start-count.true)))
