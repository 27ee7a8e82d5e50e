use Rattle.mapped_labels.proofs.MappedStands.{slots_differ}
use Rattle.mapped_labels.proofs.laws.slots_differ.Goals as goal

pub returns : goal.returns
returns c = slots_differ
