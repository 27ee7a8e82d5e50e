use Rattle.mapped_labels.specs.MappedSlots.{fields_at}
use Rattle.mapped_labels.proofs.uberblock.MappedUberblock.read_fields.Goals as goal

pub returns : goal.returns
unfolding fields_at
returns c = cc
