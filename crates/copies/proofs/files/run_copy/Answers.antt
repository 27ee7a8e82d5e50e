use Rattle.std.proofs.Common.{inl, inr, refl, subst}
use Rattle.std.specs.Prelude.{Bool}
use Rattle.base.specs.declared.error.PoolError.TheVariants.{BadGeometry}
use Rattle.read_commands.specs.declared.failure.Failure.TheVariants.{Refused}
use Rattle.read_commands.proofs.OnlyRead.{of_opened}
use Rattle.copies.specs.NewPools.{CopiesAll}
use Rattle.copies.specs.Statuses.{IsCopied, IsPartlyCopied}
use Rattle.copies.specs.declared.stop.Stop.TheVariants as stop
use Rattle.copies.proofs.Ends.{copied_whole}
use Rattle.copies.proofs.files.run_copy.Goals as goal

pub returns-in-Ok-true-clause-copied : goal.returns-in-Ok-true-clause-copied
returns-in-Ok-true-clause-copied g c = λ zero.
    let D = g.D.SectorDevice in
    let skips = c.args.arguments.skips_damaged in
    let o = g.W.Write.contents c.args.out.now in
    let p = g.W.Write.contents c.copy_found.new.out in
    of_opened c.args.opened.now c.in-Ok.device c.in-Ok.is (λ device. IsCopied D device skips o p)
    (copied_whole D.keeps_model (D.disk c.in-Ok.device) skips o p
    (subst (λ (whole : Bool). CopiesAll D.keeps_model (D.disk c.in-Ok.device) skips whole o p) c.in-Ok-true.field-0-test c.in-Ok-true.ensures.copied))

pub returns-in-Some-clause-told : goal.returns-in-Some-clause-told
returns-in-Some-clause-told g c = λ one.
    let o = g.W.Write.contents c.args.out.now in
    of_opened c.args.opened.now c.in-Ok.device c.in-Ok.is (λ device. IsPartlyCopied g.D.SectorDevice device c.args.arguments.skips_damaged o o) (inl (Refused BadGeometry, inr (stop.New BadGeometry, tt, refl)))
