use Rattle.sync.proofs.ConfigWrites.{configs_staged}
use Rattle.sync.proofs.laws.configs_are_staged.Goals as goal

pub returns : goal.returns
returns c = configs_staged
