use Rattle.mapped_labels.proofs.MappedStands.{actives_agree, ring_actives_agree}
use Rattle.mapped_labels.proofs.laws.actives_agree.Goals as goal

pub returns-clause-image : goal.returns-clause-image
returns-clause-image c = actives_agree

pub returns-clause-ring : goal.returns-clause-ring
returns-clause-ring c = ring_actives_agree
