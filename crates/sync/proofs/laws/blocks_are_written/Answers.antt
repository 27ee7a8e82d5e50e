use Rattle.sync.proofs.Targets.{is_sound}
use Rattle.sync.proofs.Blocks.{blocks_written}
use Rattle.sync.proofs.laws.blocks_are_written.Goals as goal

pub returns : goal.returns
returns c = λ base image run g. blocks_written base image run (is_sound run g)
