use Rattle.std.proofs.Common.{◌≡◌, length}
use Rattle.std.proofs.lemmas.List.{take_rest}
use Rattle.space_maps.proofs.node.open_node.Goals as goal

pub returns-clause-payload : goal.returns-clause-payload
returns-clause-payload c = let long : length c.args.block.now ≡ 4096 = c.told-block in rw long at (take_rest c.args.block.now 64)
