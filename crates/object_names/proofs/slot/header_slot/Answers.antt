use Rattle.object_names.proofs.SlotBytes.{header-put}
use Rattle.std.proofs.Common.{◌∙◌}
use Rattle.object_names.proofs.slot.header_slot.Goals as goal

pub returns : goal.returns
returns c = c.write_bytes.ensures ∙ header-put
