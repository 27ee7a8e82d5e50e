use Rattle.std.proofs.Common.{◌∙◌, sym, ap, length}
use Rattle.space.proofs.BitFlags.{length-flags_of}
use Rattle.space.proofs.bit_flags.BitFlags.len.Goals as goal

pub returns : goal.returns
returns c = sym (length-flags_of c.self.inside.count c.self.inside.words.items) ∙ ap length c.self.view_is
