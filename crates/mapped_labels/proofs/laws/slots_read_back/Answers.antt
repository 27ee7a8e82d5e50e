use Rattle.mapped_labels.proofs.MappedWrites.{IsMappedUberblock-slot_bytes}
use Rattle.mapped_labels.proofs.laws.slots_read_back.Goals as goal

pub returns : goal.returns
returns c = IsMappedUberblock-slot_bytes
