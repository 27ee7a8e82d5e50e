use Rattle.std.proofs.Common.{subst, sym}
use Rattle.std.proofs.lemmas.Result.{IfErr-weaker, err_from_is_err_and}
use Rattle.base.specs.disk.Disk.{Disk, bytes_of}
use Rattle.inspections.specs.Views.{IsViewOfImage}
use Rattle.read_commands.proofs.MountedBytes.{mounted_absent, mounted_range}
use Rattle.read_commands.proofs.OnlyRead.{by_inspection, by_view}
use Rattle.read_commands.proofs.ranges.read_viewed.Goals as goal

pub returns-clause-bytes : goal.returns-clause-bytes
returns-clause-bytes g c = λ keeps.
    let still = c.view_pool.ensures.reads.disk keeps in
    let is = c.in_ok-view.ensures.mounted keeps in
    mounted_range _ is.contents is.mounts _ is.objects c.args.object c.args.range c.read.result c.read.ensures.outside c.read.ensures.missing
    (c.read.ensures.exact keeps (subst (λ (d : Disk). IsViewOfImage (bytes_of d.now) c.in_ok-view.view) (sym still) is))

pub returns-clause-absent : goal.returns-clause-absent
returns-clause-absent g c = λ keeps.
    let is = c.in_ok-view.ensures.mounted keeps in
    mounted_absent _ is.contents is.mounts _ is.objects c.args.object.0 c.read.result c.read.ensures.absent

pub returns-in_err-view-clause-refused : goal.returns-in_err-view-clause-refused
returns-in_err-view-clause-refused g c =
    let p = err_from_is_err_and c.from_residual.result c.from_residual.ensures.1 in
    rw (p.1, p.2) (by_inspection (g.B.SectorDevice.size c.args.reader.now) c.in_err-view.field-0.0 c.in_err-view.ensures.refused.kind)

pub returns-clause-refused : goal.returns-clause-refused
returns-clause-refused g c = IfErr-weaker c.read.result _ _ (λ e refused. by_view c.args.object c.args.range e refused) c.read.ensures.refused
