use Rattle.tree_blocks.proofs.Bytes.{all_bytes}
use Rattle.extents.proofs.extents.Extents.reserve_bytes.Goals as goal

pub returns-clause-bytes : goal.returns-clause-bytes
returns-clause-bytes c = all_bytes c.args.content.now c.type_inv.content
