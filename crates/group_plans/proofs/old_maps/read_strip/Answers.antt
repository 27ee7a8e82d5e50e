use Rattle.std.proofs.Common.{◌≡◌, ◌∙◌, ℕ, ap, subst, sym}
use Rattle.std.proofs.lemmas.Result.{err_from_is_err_and}
use Rattle.base.specs.disk.Disk.{bytes_of}
use Rattle.base.specs.tree.Places.{strip_number}
use Rattle.base.specs.tree.Places.Place.{Data}
use Rattle.object_maps.specs.Cached.{HoldsStrip}
use Rattle.group_plans.proofs.OldMaps.{there_with}
use Rattle.group_plans.proofs.old_maps.read_strip.Goals as goal

pub returns-in_err-records-clause-sound : goal.returns-in_err-records-clause-sound
returns-in_err-records-clause-sound g c = λ keeps pointers indirects holds is.
    let image = bytes_of (g.B.SectorDevice.disk c.args.reader.now).now in
    let of = there_with image c.args.frame.now c.args.object.now indirects pointers holds c.requires.number c.args.strip c.requires.strip c.args.indirect.now is
    (λ none. let no = c.if-is_none.ensures.1 none in cc) in
    let p = err_from_is_err_and c.from_residual.result c.from_residual.ensures.1 in
    rw (p.1, p.2) (c.in_err-records.ensures.sound keeps pointers of.0
    (subst (λ (m : ℕ). HoldsStrip image c.args.frame.now m c.args.indirect.now pointers of.0) (sym c.strip_number-number.ensures.number) of.1) of.2)

pub returns-clause-exact : goal.returns-clause-exact
returns-clause-exact g c = λ keeps pointers indirects holds is k low.
    let image = bytes_of (g.B.SectorDevice.disk c.args.reader.now).now in
    let number : c.strip_number-number.result ≡ strip_number c.args.object.now.id.0 c.args.strip = c.strip_number-number.ensures.number in
    let of = there_with image c.args.frame.now c.args.object.now indirects pointers holds c.requires.number c.args.strip c.requires.strip c.args.indirect.now is
    (λ none. let no = c.if-is_none.ensures.1 none in cc) in
    c.in_ok-records.ensures.exact keeps pointers of.0 (subst (λ (m : ℕ). HoldsStrip image c.args.frame.now m c.args.indirect.now pointers of.0) (sym number) of.1) k low
    ∙ ap (λ (m : ℕ). pointers (Data m k)) number
