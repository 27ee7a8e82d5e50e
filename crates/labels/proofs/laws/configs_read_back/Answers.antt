use Rattle.labels.proofs.ConfigBlocks.{configs-read_back}
use Rattle.labels.proofs.laws.configs_read_back.Goals as goal

pub returns : goal.returns
returns c = configs-read_back
