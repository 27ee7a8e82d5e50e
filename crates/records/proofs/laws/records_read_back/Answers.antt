use Rattle.std.proofs.Common.{refl}
use Rattle.records.proofs.laws.records_read_back.Goals as goal

pub returns : goal.returns
returns c = λ r rest allowed. record { allowed = allowed; spelled = refl }
