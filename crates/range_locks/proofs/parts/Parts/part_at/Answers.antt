use Rattle.std.proofs.Common.{ap, ◌∙◌}
use Rattle.range_locks.proofs.StoredParts.{part_here, part_after, part_none}
use Rattle.range_locks.proofs.parts.Parts.part_at.Goals as goal

pub returns-in-Some : goal.returns-in-Some
returns-in-Some c = λ f is still. part_here c.args.self.now.table f is _ _ c.in-Some.ensures.1 ∙ ap f c.if-begin-at.true

pub returns-in-Some-2 : goal.returns-in-Some-2
returns-in-Some-2 c = λ f is still. part_after c.args.self.now.table f is still c.args.at _ _ c.in-Some.ensures.1 c.in-Some.ensures.0 c.if-begin-at.false c.in-Some.ensures.2

pub returns-in-None : goal.returns-in-None
returns-in-None c = λ f is still. part_none c.args.self.now.table f is still c.args.at c.in-None.ensures
