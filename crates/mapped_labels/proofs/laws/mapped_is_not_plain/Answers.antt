use Rattle.mapped_labels.proofs.Sizes.{mapped_is_not_plain}
use Rattle.mapped_labels.proofs.laws.mapped_is_not_plain.Goals as goal

pub returns : goal.returns
returns c = mapped_is_not_plain
