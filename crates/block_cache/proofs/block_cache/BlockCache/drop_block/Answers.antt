use Rattle.std.specs.List.{IsDistinct}
use Rattle.block_cache.proofs.block_cache.BlockCache.drop_block.Goals as goal

pub returns-in_default-clause-distinct : goal.returns-in_default-clause-distinct
unfolding IsDistinct
returns-in_default-clause-distinct c = rw (← c.self.view_is, c.in_default.is) tt
