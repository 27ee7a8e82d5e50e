use Rattle.std.proofs.Common.{refl}
use Rattle.std.proofs.lemmas.Result.{err_from_is_err_and}
use Rattle.object_views.proofs.ReadPlaces.{top_formless, top_missing, top_read}
use Rattle.object_views.proofs.stored_object.StoredObject.read_top.Goals as goal

pub returns-in_err-read_payload-clause-damage : goal.returns-in_err-read_payload-clause-damage
returns-in_err-read_payload-clause-damage g c = λ keeps image root shows is.
    let o = c.args.self.now in
    let p = err_from_is_err_and c.from_residual.result c.from_residual.ensures.1 in
    rw (p.1, p.2) (top_missing image o.frame root o.id.0 o.entry c.requires.number is c.requires.long c.in_err-read_payload.field-0.0 (c.in_err-read_payload.ensures.missing keeps image shows))

pub returns-then-not-are_strips-clause-damage : goal.returns-then-not-are_strips-clause-damage
returns-then-not-are_strips-clause-damage g c = λ keeps image root shows is.
    let o = c.args.self.now in
    top_formless image o.frame root o.id.0 o.entry c.requires.number is c.requires.long c.read_payload.new.into (c.in_ok-read_payload.ensures.read keeps image shows) c.damaged.result
    (λ formed. let no = c.if-not-are_strips.ensures.1 formed in cc) c.damaged.ensures

pub returns-clause-read : goal.returns-clause-read
returns-clause-read g c = λ keeps image root shows is.
    let o = c.args.self.now in
    top_read image o.frame root o.id.0 o.entry c.requires.number is c.requires.long c.read_payload.new.into (c.in_ok-read_payload.ensures.read keeps image shows) (c.if-not-are_strips.ensures.0 refl)

pub returns-clause-blocks : goal.returns-clause-blocks
returns-clause-blocks g c = λ keeps image root shows is.
    record { top = λ is_read. returns-clause-read g c keeps image root shows is; strip = (c.requires.blocks keeps image root shows is).strip }
