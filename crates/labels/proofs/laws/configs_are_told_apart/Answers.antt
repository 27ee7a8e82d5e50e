use Rattle.labels.proofs.ConfigBlocks.{configs-told_apart}
use Rattle.labels.proofs.laws.configs_are_told_apart.Goals as goal

pub returns : goal.returns
returns c = configs-told_apart
