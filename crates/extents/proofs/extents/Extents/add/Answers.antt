use Rattle.extents.proofs.SamePatches.{applied_left}
use Rattle.extents.proofs.extents.Extents.add.Goals as goal

pub returns-clause-added : goal.returns-clause-added
returns-clause-added c = applied_left c.args.ops.now c.args.self.now c.reserve.new.self c.apply.new.self c.in_ok-reserve.ensures.same c.apply.ensures.applied
