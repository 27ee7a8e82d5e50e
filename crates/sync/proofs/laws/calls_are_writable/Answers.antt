use Rattle.sync.proofs.Targets.{calls-writable, is_sound}
use Rattle.sync.proofs.laws.calls_are_writable.Goals as goal

pub returns : goal.returns
returns c = λ run g. calls-writable run (is_sound run g)
