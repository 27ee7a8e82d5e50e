use Rattle.std.proofs.Common.{◌≡◌, false, rules, true}
use Rattle.std.proofs.lemmas.Result.{err_from_is_err_and}
use Rattle.copies.proofs.RecordReads.{lost_on}
use Rattle.copies.proofs.Stopped.{plain_stop, unwritten_stop}
use Rattle.copies.proofs.objects.pass_over.Goals as goal

pub returns-then-not-skips-clause-stopped : goal.returns-then-not-skips-clause-stopped
returns-then-not-skips-clause-stopped g c =
    let never : c.args.skips ≡ false = search rules in
    λ kind address same. (never, λ keeps. (c.requires.lost keeps (c.requires.seen keeps)).1)

pub returns-in-Err-clause-stopped : goal.returns-in-Err-clause-stopped
returns-in-Err-clause-stopped g c = plain_stop g.D.SectorDevice.keeps_model (g.D.SectorDevice.disk c.args.old.now) c.args.skips c.in-Err.refusal c.in-Err.ensures.refused

pub returns-clause-lost : goal.returns-clause-lost
returns-clause-lost g c =
    lost_on g.D.SectorDevice.keeps_model (g.D.SectorDevice.disk c.args.old.now) c.args.view.now c.args.damage c.args.range.low c.args.range.high c.in-Ok.high c.requires.lost c.in-Ok.ensures.lost

pub returns-in_err-write_missing-clause-stopped : goal.returns-in_err-write_missing-clause-stopped
returns-in_err-write_missing-clause-stopped g c =
    let passes : c.args.skips ≡ true = search rules in
    let p = err_from_is_err_and c.from_residual.result c.from_residual.ensures.1 in
    rw (p.1, p.2) (unwritten_stop g.D.SectorDevice.keeps_model (g.D.SectorDevice.disk c.args.old.now) c.args.skips c.in_err-write_missing.field-0.0 c.in_err-write_missing.ensures.unwritten passes (λ keeps. (c.requires.lost keeps (c.requires.seen keeps)).1))
