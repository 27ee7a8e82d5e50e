use Rattle.std.proofs.Common.{◌≡◌, ◌<◌, ◌+◌, suc, arith, subst, sym, true, ◌∙◌, ℕ, Some}
use Rattle.std.specs.Prelude.{Bool}
use Rattle.std.proofs.lemmas.Result.{IfOk-weaker}
use Rattle.base.specs.declared.names.ObjectId.{ObjectId}
use Rattle.base.specs.disk.Disk.{bytes_of}
use Rattle.base.specs.formats.Limits.{object_count}
use Rattle.object_views.specs.ObjectViews.{object_of}
use Rattle.copies.specs.Copies.{CopiesObjects, CopiesRecords, MakesAll, made_object, viewed_object}
use Rattle.copies.proofs.Steps.{absent, present, same_object}
use Rattle.copies.proofs.objects.copy_object.Goals as goal

pub returns-in-None-clause-copied : goal.returns-in-None-clause-copied
returns-in-None-clause-copied g c =
    let keep = g.D.SectorDevice.keeps_model in
    let disk = g.D.SectorDevice.disk c.args.old.now in
    let v = c.args.view.now in
    let n = c.args.object.0 in
    let h = c.args.new.now in
    let o = g.W.Write.contents c.args.out.now in
    let known = c.in-None.ensures in
    let low : object_of v < object_count = subst (λ (k : ℕ). k < object_count) (sym c.requires.object) c.requires.number in
    let after : suc n ≡ n + 1 = omega arith in
    subst (λ (k : ℕ). CopiesObjects keep disk c.args.skips n k true h h o o) after
    (subst (λ (k : ℕ). CopiesObjects keep disk c.args.skips k (suc k) true h h o o) c.requires.object
    (absent keep disk c.args.skips v (λ keeps. record { view = c.requires.seen keeps; length = λ contents mounts. sym known.seen ∙ known.mounted (bytes_of disk.now) contents (c.requires.seen keeps) low mounts }) (sym known.seen) h o))

pub returns-clause-copied : goal.returns-clause-copied
returns-clause-copied g c =
    let keep = g.D.SectorDevice.keeps_model in
    let disk = g.D.SectorDevice.disk c.args.old.now in
    let v = c.args.view.now in
    let n = c.args.object.0 in
    let h = c.args.new.now in
    let i = c.make_object.new.new in
    let j = c.copy_records.new.new in
    let o = g.W.Write.contents c.args.out.now in
    let p = g.W.Write.contents c.copy_records.new.out in
    let size = c.in-Some.length in
    let known = c.in-Some.ensures in
    let low : object_of v < object_count = subst (λ (k : ℕ). k < object_count) (sym c.requires.object) c.requires.number in
    let after : suc n ≡ n + 1 = omega arith in
    let same : c.args.object ≡ viewed_object v = same_object c.args.object v c.requires.object in
    IfOk-weaker c.copy_records.result (λ (whole : Bool). CopiesRecords keep disk v c.args.skips 0 size whole i j o p) (λ (whole : Bool). CopiesObjects keep disk c.args.skips n (n + 1) whole h j o p)
    (λ whole copied.
    subst (λ (k : ℕ). CopiesObjects keep disk c.args.skips n k whole h j o p) after
    (subst (λ (k : ℕ). CopiesObjects keep disk c.args.skips k (suc k) whole h j o p) c.requires.object
    (present keep disk c.args.skips v (λ keeps. record { view = c.requires.seen keeps; length = λ contents mounts. sym known.seen ∙ known.mounted (bytes_of disk.now) contents (c.requires.seen keeps) low mounts }) size (sym known.seen) h i j
    (subst (λ (m : ObjectId). MakesAll (made_object m (Some size)) h i) same c.in-Ok.ensures.made) whole o p copied)))
    c.copy_records.ensures.copied
