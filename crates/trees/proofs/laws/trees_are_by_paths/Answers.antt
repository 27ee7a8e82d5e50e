use Rattle.trees.proofs.ObjectPaths.{tree_by_path}
use Rattle.trees.proofs.laws.trees_are_by_paths.Goals as goal

pub returns : goal.returns
returns c = tree_by_path
