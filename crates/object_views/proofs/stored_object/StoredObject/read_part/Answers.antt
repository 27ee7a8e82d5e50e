use Rattle.std.proofs.Common.{◌∙◌, ◌%◌, ◌<◌, ap, sym, inl, inr, arith}
use Rattle.std.proofs.lemmas.Result.{err_from_is_err_and, IfErr-weaker, on_ok_weaker}
use Rattle.base.specs.disk.Disk.{Disk, bytes_of}
use Rattle.base.proofs.tree.Strips.{record-count}
use Rattle.object_views.proofs.stored_object.StoredObject.read_part.Goals as goal

pub read_strip-requires-clause-strip : goal.read_strip-requires-clause-strip
read_strip-requires-clause-strip g c = omega (arith, c.requires.index, record-count)

pub returns-in_err-read_strip-clause-damage : goal.returns-in_err-read_strip-clause-damage
returns-in_err-read_strip-clause-damage g c = λ keeps image root shows is.
    let p = err_from_is_err_and c.from_residual.result c.from_residual.ensures.1 in
    rw (p.1, p.2) (inl (c.in_err-read_strip.ensures.damage keeps image root shows is))

pub returns-clause-read : goal.returns-clause-read
returns-clause-read g c = λ keeps image root shows is.
    let still = ap (λ (d : Disk). bytes_of d.now) (c.in_ok-read_strip.ensures.reads.disk keeps) ∙ shows in
    let above = c.in_ok-read_strip.ensures.read keeps image root shows is in
    let k_low : c.args.index % 84 < 84 = omega arith in
    let at = above.at (c.args.index % 84) k_low ∙ sym c.pointer_in-pointer.ensures in
    on_ok_weaker c.read_record.result (λ read. record { sound = record { top = above.top; indirect = above.indirect; block = read.block }; bytes = read.bytes })
    (c.read_record.ensures.read keeps image root still is at)

pub returns-clause-damage : goal.returns-clause-damage
returns-clause-damage g c = λ keeps image root shows is.
    let still = ap (λ (d : Disk). bytes_of d.now) (c.in_ok-read_strip.ensures.reads.disk keeps) ∙ shows in
    let above = c.in_ok-read_strip.ensures.read keeps image root shows is in
    let k_low : c.args.index % 84 < 84 = omega arith in
    let at = above.at (c.args.index % 84) k_low ∙ sym c.pointer_in-pointer.ensures in
    IfErr-weaker c.read_record.result _ _ (λ e tells. inr tells) (c.read_record.ensures.damage keeps image root still is at)
