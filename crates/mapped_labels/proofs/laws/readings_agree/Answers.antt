use Rattle.mapped_labels.proofs.MappedReads.{readings_agree}
use Rattle.mapped_labels.proofs.laws.readings_agree.Goals as goal

pub returns : goal.returns
returns c = readings_agree
