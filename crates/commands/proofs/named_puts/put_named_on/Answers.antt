use Rattle.std.proofs.Common.{subst}
use Rattle.commands.specs.NamedCommands.{NamedPutEnds}
use Rattle.commands.proofs.named_puts.put_named_on.Goals as goal

pub returns-in-Err-clause-refused : goal.returns-in-Err-clause-refused
returns-in-Err-clause-refused g c = λ one.
    let given = c.args.arguments in
    let put = c.put_named-end in
    (put.result.0, c.in-Err.failure, subst (λ r. NamedPutEnds g.D.SectorDevice c.args.device given.moment given.name.now given.offset c.args.bytes.now put.result.0 r) c.in-Err.is put.ensures.put)
