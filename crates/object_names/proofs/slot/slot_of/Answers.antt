use Rattle.object_names.proofs.SlotBytes.{slot-put}
use Rattle.std.proofs.Common.{◌∙◌}
use Rattle.object_names.proofs.slot.slot_of.Goals as goal

pub returns : goal.returns
returns c = c.write_bytes.ensures ∙ slot-put c.args.name.now c.requires
