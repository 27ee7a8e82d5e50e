use Rattle.std.proofs.Common.{◌∙◌, ap, arith}
use Rattle.base.proofs.tree.Strips.{one_level-length}
use Rattle.tree_blocks.specs.Pointers.{ObjectPointers}
use Rattle.tree_blocks.proofs.ToldStrips.{short-by_length, entry-short}
use Rattle.block_clients.proofs.maps.an_object_of_one_byte_has_no_top.Goals as goal

pub returns : goal.returns
returns c = c.top.ensures ∙ ap (λ (p : ObjectPointers). p.top) (entry-short c.args.entry.now (short-by_length c.args.entry.now 1 c.requires (omega (arith, one_level-length))))
