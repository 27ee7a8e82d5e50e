use Rattle.std.proofs.Common.{refl}
use Rattle.space.proofs.Flags.{all_placed}
use Rattle.space.proofs.free_set.FreeSet.blocks.Goals as goal

pub returns-clause-placed : goal.returns-clause-placed
returns-clause-placed c = rw (← c.self.view_is) (all_placed _ c.self.inside.flags refl)
