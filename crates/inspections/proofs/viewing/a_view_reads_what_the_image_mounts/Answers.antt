use Rattle.std.proofs.Common.{refl, subst, sym, ◌∙◌}
use Rattle.std.proofs.lemmas.Result.{IfOk-weaker}
use Rattle.base.specs.declared.names.ObjectId.{ObjectId}
use Rattle.base.specs.declared.range.Range.{Range}
use Rattle.base.specs.disk.Disk.{Disk, bytes_of}
use Rattle.inspections.specs.Views.{IsViewOfImage}
use Rattle.inspections.proofs.Views.{read_of_mount}
use Rattle.inspections.proofs.viewing.a_view_reads_what_the_image_mounts.Goals as goal

pub returns : goal.returns
returns g c = λ keeps.
    let now = g.B.SectorDevice.disk c.args.reader.now in
    let still = c.view_pool.ensures.reads.disk keeps in
    let is = c.in_ok-view.ensures.mounted keeps in
    let object : ObjectId = record { 0 = 7 } in
    let range : Range = record { low = 1; high = 3 } in
    IfOk-weaker c.read.result _ _ (λ bytes read contents mounts there.
    read_of_mount (bytes_of now.now) c.in_ok-view.view object range bytes is read contents mounts ∙ (rw there refl))
    (c.read.ensures.exact keeps (subst (λ (d : Disk). IsViewOfImage (bytes_of d.now) c.in_ok-view.view) (sym still) is))
