use Rattle.trees.proofs.FreeBlocks.{IfOk_root}
use Rattle.object_maps_clients.proofs.loads.the_block_of_the_root_is_not_free.Goals as goal

pub returns : goal.returns
returns g c = IfOk_root c.load.result (λ l. l.tree) (λ l. l.free) c.args.frame.now.blocks c.args.root c.requires.area c.requires.root c.load.ensures.root c.load.ensures.free
