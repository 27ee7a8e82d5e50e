use Rattle.std.proofs.Common.{List, ℕ, subst, sym, ◌∙◌}
use Rattle.std.specs.Prelude.{Bool, IfErr, IfOk, Result}
use Rattle.copies.specs.NewPools.{IsCopy}
use Rattle.copies.specs.Stops.{IsStopOf}
use Rattle.copies.specs.declared.stop.Stop.{Stop}
use Rattle.copies.proofs.files.copy_on.Goals as goal

pub returns-in-Ok-clause-copied : goal.returns-in-Ok-clause-copied
returns-in-Ok-clause-copied g c =
    let D = g.D.SectorDevice in
    let made = c.copy_into-end in
    let o = g.W.Write.contents c.args.out.now in
    let p = g.W.Write.contents made.new.out in
    subst (λ (name : List ℕ). IsCopy g.N.SectorDevice D.keeps_model (D.disk c.args.old.now) name c.args.arguments.skips_damaged c.in-Ok.is_whole made.result.1 o p) c.name.ensures.name
    (subst (λ (r : Result Bool Stop). IfOk r (λ whole. IsCopy g.N.SectorDevice D.keeps_model (D.disk c.args.old.now) c.name.result c.args.arguments.skips_damaged whole made.result.1 o p)) c.in-Ok.is made.ensures.copied)

pub returns-in-Ok-clause-named : goal.returns-in-Ok-clause-named
returns-in-Ok-clause-named g c = λ keeps contents mounts.
    sym c.name.ensures.name ∙ c.name.ensures.mounted c.requires.fits.allowed _ (c.requires.paths keeps) contents mounts

pub returns-in-Err-clause-named : goal.returns-in-Err-clause-named
returns-in-Err-clause-named g c = λ keeps contents mounts.
    sym c.name.ensures.name ∙ c.name.ensures.mounted c.requires.fits.allowed _ (c.requires.paths keeps) contents mounts

pub returns-in-Err-clause-failed : goal.returns-in-Err-clause-failed
returns-in-Err-clause-failed g c =
    let D = g.D.SectorDevice in (
      c.in-Err.stop,
      subst (λ (r : Result Bool Stop). IfErr r (IsStopOf D.keeps_model (D.disk c.args.old.now) c.args.arguments.skips_damaged)) c.in-Err.is c.copy_into-end.ensures.stopped,
      c.failure_of.ensures,
    )
