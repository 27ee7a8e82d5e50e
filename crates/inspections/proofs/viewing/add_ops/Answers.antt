use Rattle.inspections.proofs.Views.{more_changes}
use Rattle.inspections.proofs.viewing.add_ops.Goals as goal

pub returns : goal.returns
returns c = λ earlier are.
    more_changes earlier c.args.ops.now c.args.changes.now c.reserve.new.self c.apply.new.self c.reserve.ensures.same c.reserve.ensures.others c.apply.ensures.applied c.apply.ensures.others are
