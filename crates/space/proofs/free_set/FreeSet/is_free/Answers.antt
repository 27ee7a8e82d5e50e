use Rattle.std.proofs.Common.{◌∙◌, sym}
use Rattle.space.proofs.Flags.{contains-free_of}
use Rattle.space.proofs.free_set.FreeSet.is_free.Goals as goal

pub returns : goal.returns
returns c = rw (← c.self.view_is) (c.get.ensures ∙ sym (contains-free_of c.self.inside.flags c.args.block))
