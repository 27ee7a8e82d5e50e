use Rattle.std.proofs.Common.{◌∙◌, ap, arith}
use Rattle.base.proofs.tree.Strips.{one_level-length}
use Rattle.tree_blocks.specs.Pointers.{ObjectPointers}
use Rattle.tree_blocks.proofs.ToldStrips.{long-by_length, entry-long}
use Rattle.block_clients.proofs.maps.a_long_object_has_a_top.Goals as goal

pub returns : goal.returns
returns c = c.top.ensures ∙ ap (λ (p : ObjectPointers). p.top) (entry-long c.args.entry.now (long-by_length c.args.entry.now 338689 c.requires (omega (arith, one_level-length))))
