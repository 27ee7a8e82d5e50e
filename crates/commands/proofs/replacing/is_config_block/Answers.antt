use Rattle.commands.proofs.Replaced.{not_config}
use Rattle.commands.proofs.replacing.is_config_block.Goals as goal

pub returns : goal.returns
returns c = not_config c.args.block.now c.decode.result c.read_u64.result c.is_some.result c.read_u64.ensures c.is_some.ensures c.decode.ensures.none
