use Rattle.std.proofs.Common.{subst, sym}
use Rattle.command_arguments.specs.declared.reports.ShowForm.{ShowForm}
use Rattle.read_commands.specs.AskedUndone.{ShowsUndone}
use Rattle.read_commands.proofs.dispatch.show.Goals as goal

pub returns-in-Fast-clause-undone : goal.returns-in-Fast-clause-undone
returns-in-Fast-clause-undone g c = λ some.
    let run = c.run_show_fast in
    (run.new.opened, subst (λ (form : ShowForm). ShowsUndone g.D.SectorDevice form c.args.opened run.new.opened run.result) (sym c.in-Fast.is) (run.ensures.undone some))

pub returns-in-Lines-clause-undone : goal.returns-in-Lines-clause-undone
returns-in-Lines-clause-undone g c = λ some.
    let run = c.run_show in
    (run.new.opened, subst (λ (form : ShowForm). ShowsUndone g.D.SectorDevice form c.args.opened run.new.opened run.result) (sym c.in-Lines.is) (run.ensures.undone some))

pub returns-clause-undone : goal.returns-clause-undone
returns-clause-undone g c = λ some.
    let run = c.run_json_show in
    (run.new.opened, subst (λ (form : ShowForm). ShowsUndone g.D.SectorDevice form c.args.opened run.new.opened run.result) (sym c.in-Json.is) (run.ensures.undone some))
