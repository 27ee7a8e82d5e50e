use Rattle.uberblocks.proofs.Stands.{actives_agree}
use Rattle.uberblocks.proofs.laws.actives_agree.Goals as goal

pub returns-clause-image : goal.returns-clause-image
returns-clause-image c = actives_agree
