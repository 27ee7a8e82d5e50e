use Rattle.std.proofs.Common.{◌∙◌, arith}
use Rattle.base.proofs.tree.Strips.{one_level-length}
use Rattle.tree_blocks.proofs.ToldStrips.{long-by_length}
use Rattle.object_maps_clients.proofs.forms.an_object_of_one_byte_more_has_two_levels.Goals as goal

pub returns : goal.returns
returns c = c.is_long.ensures ∙ long-by_length c.args.entry.now 338689 c.requires (omega (arith, one_level-length))
