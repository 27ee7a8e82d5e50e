use Rattle.block_cache.proofs.CachedBlocks.{found-put}
use Rattle.object_maps_clients.proofs.cached.a_block_has_the_payload_that_was_put.Goals as goal

pub returns : goal.returns
returns c = λ found. found-put 4096 _ c.copy.new.into c.args.cache.now c.put.new.self c.requires c.put.ensures (c.copy.ensures.hit found)
