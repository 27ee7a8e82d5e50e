use Rattle.std.proofs.Common.{subst}
use Rattle.commands.specs.NamedCommands.{NamedRemovalEnds}
use Rattle.commands.proofs.named_removals.remove_named_on.Goals as goal

pub returns-in-Err-clause-refused : goal.returns-in-Err-clause-refused
returns-in-Err-clause-refused g c = λ one.
    let given = c.args.arguments in
    (c.in-Err.failure, subst (λ r. NamedRemovalEnds g.D.SectorDevice c.args.device given.moment given.name.now r) c.in-Err.is c.remove_named-end.ensures.removed)
