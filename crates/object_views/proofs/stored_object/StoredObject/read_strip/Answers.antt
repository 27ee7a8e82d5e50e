use Rattle.std.proofs.Common.{◌∙◌, ℕ, List, refl, ap, subst, inl}
use Rattle.std.specs.Prelude.{IfSome, Option}
use Rattle.std.proofs.lemmas.Result.{err_from_is_err_and}
use Rattle.base.specs.declared.error.PoolError.{PoolError}
use Rattle.base.specs.disk.Disk.{Disk, bytes_of}
use Rattle.base.specs.tree.Places.Place.{Indirect}
use Rattle.tree_blocks.specs.Forms.{AreRecordForms}
use Rattle.object_views.specs.ReadPaths.{IsBlockMissing, IsPayloadRead, IsStripRead}
use Rattle.object_views.proofs.ReadPlaces.{same_strip, strip_formless, strip_missing, strip_of_object, strip_read}
use Rattle.object_views.proofs.stored_object.StoredObject.read_strip.Goals as goal

pub returns-then-eq-clause-read : goal.returns-then-eq-clause-read
returns-then-eq-clause-read g c = λ keeps image root shows is.
    let o = c.args.self.now in
    subst (λ (s : Option ℕ). IfSome s (λ j. IsStripRead image o.frame root o.id.0 j c.args.blocks.now.indirect)) (same_strip c.args.blocks.now.strip c.args.strip c.if-eq.ensures) (c.requires.blocks keeps image root shows is).strip

pub returns-in_err-pointer-clause-damage : goal.returns-in_err-pointer-clause-damage
returns-in_err-pointer-clause-damage g c = λ keeps image root shows is.
    let p = err_from_is_err_and c.from_residual.result c.from_residual.ensures.1 in
    rw (p.1, p.2) (inl (c.in_err-pointer.ensures.damage keeps image root shows is))

pub returns-in_err-read_payload-clause-damage : goal.returns-in_err-read_payload-clause-damage
returns-in_err-read_payload-clause-damage g c = λ keeps image root shows is.
    let o = c.args.self.now in
    let still = ap (λ (d : Disk). bytes_of d.now) (c.in_ok-pointer.ensures.reads.disk keeps) ∙ shows in
    let pointer = c.in_ok-pointer.pointer in
    let i = strip_of_object image o.frame root o.id.0 o.entry c.requires.number is c.args.strip pointer (c.in_ok-pointer.ensures.pointer keeps image root shows is) in
    let e : PoolError = c.in_err-read_payload.field-0.0 in
    let p = err_from_is_err_and c.from_residual-in_err-read_payload.result c.from_residual-in_err-read_payload.ensures.1 in
    rw (p.1, p.2) (strip_missing image o.frame root o.id.0 c.args.strip o.entry.length pointer c.requires.number c.requires.strip i e
    (subst (λ (m : ℕ). IsBlockMissing image o.frame (Indirect m) pointer e) c.strip_number-number.ensures.number (c.in_err-read_payload.ensures.missing keeps image still)))

pub returns-then-not-are_records-clause-damage : goal.returns-then-not-are_records-clause-damage
returns-then-not-are_records-clause-damage g c = λ keeps image root shows is.
    let o = c.args.self.now in
    let still = ap (λ (d : Disk). bytes_of d.now) (c.in_ok-pointer.ensures.reads.disk keeps) ∙ shows in
    let pointer = c.in_ok-pointer.pointer in
    let payload : List ℕ = c.read_payload.new.into in
    let m_is = c.strip_number-number.ensures.number in
    let i = strip_of_object image o.frame root o.id.0 o.entry c.requires.number is c.args.strip pointer (c.in_ok-pointer.ensures.pointer keeps image root shows is) in
    let read = subst (λ (m : ℕ). IsPayloadRead image o.frame (Indirect m) pointer payload) m_is (c.in_ok-read_payload.ensures.read keeps image still) in
    strip_formless image o.frame root o.id.0 c.args.strip o.entry.length pointer c.requires.number c.requires.strip i payload read c.damaged.result
    (λ formed. let no = c.if-not-are_records.ensures.1 (rw m_is formed) in cc) c.damaged.ensures

pub returns-clause-read : goal.returns-clause-read
returns-clause-read g c = λ keeps image root shows is.
    let o = c.args.self.now in
    let still = ap (λ (d : Disk). bytes_of d.now) (c.in_ok-pointer.ensures.reads.disk keeps) ∙ shows in
    let pointer = c.in_ok-pointer.pointer in
    let payload : List ℕ = c.read_payload.new.into in
    let m_is = c.strip_number-number.ensures.number in
    let i = strip_of_object image o.frame root o.id.0 o.entry c.requires.number is c.args.strip pointer (c.in_ok-pointer.ensures.pointer keeps image root shows is) in
    let read = subst (λ (m : ℕ). IsPayloadRead image o.frame (Indirect m) pointer payload) m_is (c.in_ok-read_payload.ensures.read keeps image still) in
    let formed = subst (λ (m : ℕ). AreRecordForms m o.entry.length payload) m_is (c.if-not-are_records.ensures.0 refl) in
    strip_read image o.frame root o.id.0 c.args.strip o.entry.length pointer c.requires.number c.requires.strip i payload read (c.in_ok-pointer.ensures.top keeps image root shows is) formed

pub returns-clause-blocks : goal.returns-clause-blocks
returns-clause-blocks g c = λ keeps image root shows is.
    record { top = (c.in_ok-pointer.ensures.blocks keeps image root shows is).top; strip = returns-clause-read g c keeps image root shows is }
