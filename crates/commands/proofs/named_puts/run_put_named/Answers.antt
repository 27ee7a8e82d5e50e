use Rattle.std.proofs.Common.{subst, sym}
use Rattle.std.specs.Prelude.{IfOk}
use Rattle.commands.specs.NamedCommands.{RefusesNamedPut}
use Rattle.commands.proofs.named_puts.run_put_named.Goals as goal

pub returns-in-Ok-opened-clause-refused : goal.returns-in-Ok-opened-clause-refused
returns-in-Ok-opened-clause-refused g c = λ one.
    let G = g.D.SectorDevice in
    let given = c.args.arguments in
    subst (λ i. IfOk i (λ bytes. IfOk c.args.opened (λ device. RefusesNamedPut G device given.moment given.name.now given.offset bytes.items))) (sym c.in-Ok.is)
    (subst (λ o. IfOk o (λ device. RefusesNamedPut G device given.moment given.name.now given.offset c.in-Ok.input.items)) (sym c.in-Ok-opened.is)
    (subst (λ l. RefusesNamedPut G c.in-Ok-opened.device given.moment given.name.now given.offset l) c.deref.ensures.value (c.put_named_on-status.ensures.refused one)))
