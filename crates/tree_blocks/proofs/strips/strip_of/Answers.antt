use Rattle.base.proofs.tree.Strips.{number-strip}
use Rattle.tree_blocks.proofs.strips.strip_of.Goals as goal

pub returns-clause-in_range : goal.returns-clause-in_range
returns-clause-in_range c = number-strip c.args.number c.requires
