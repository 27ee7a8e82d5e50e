use Rattle.base.proofs.tree.Strips.{strip-low}
use Rattle.tree_blocks.proofs.strips.strip_number.Goals as goal

pub returns-clause-in_range : goal.returns-clause-in_range
returns-clause-in_range c = strip-low c.args.object c.args.index c.requires.object c.requires.index
