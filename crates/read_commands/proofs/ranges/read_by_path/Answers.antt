use Rattle.std.proofs.Common.{◌≡◌, ℕ, List, subst}
use Rattle.std.specs.Prelude.{IfErr, IfOk}
use Rattle.std.proofs.lemmas.Result.{err_from_is_err_and}
use Rattle.base.specs.declared.error.PoolError.TheVariants.{NoObject}
use Rattle.base.specs.disk.Disk.{Disk, bytes_of}
use Rattle.base.specs.history.Contents.{Contents}
use Rattle.base.specs.tree.Mount.{MountsTo}
use Rattle.inspections.specs.PoolDamages.{IsOfNoDamage}
use Rattle.object_views.specs.ObjectViews.{IsCheckedRead, IsObjectViewOf, TellsBetween}
use Rattle.tree_blocks.specs.Sources.{range_in}
use Rattle.read_commands.specs.Reads.{IsAbsentIn, IsMountedRange}
use Rattle.read_commands.proofs.PathReads.{path_absent, path_checked, path_mounted, path_unseen, reading_refused, viewing_refused}
use Rattle.read_commands.proofs.ranges.read_by_path.Goals as goal

pub returns-clause-bytes : goal.returns-clause-bytes
returns-clause-bytes g c = λ keeps whole.
    let D = g.D.SectorDevice in
    let v = c.in_ok-view.view in
    let image : List ℕ = bytes_of (D.disk c.args.device.now).now in
    let still = c.view_object.ensures.reads.disk keeps in
    let seen = c.in_ok-view.ensures.seen keeps in
    subst (λ (n : ℕ). IfOk c.read.result (IsMountedRange image n c.args.range)) c.in_ok-view.ensures.object
    (path_mounted image v seen c.args.range whole.0 whole.1 c.read.result c.read.ensures.outside c.read.ensures.missing
    (subst (λ (d : Disk). (cs : Contents) → IsObjectViewOf (bytes_of d.now) v → MountsTo (bytes_of d.now) cs → IfOk c.read.result (λ bytes. bytes ≡ range_in cs.objects v.object c.args.range)) still
    (c.read.ensures.exact keeps) whole.0 seen whole.1))

pub returns-clause-absent : goal.returns-clause-absent
returns-clause-absent g c = λ keeps whole.
    let D = g.D.SectorDevice in
    let image : List ℕ = bytes_of (D.disk c.args.device.now).now in
    subst (λ (n : ℕ). IfErr c.read.result (λ e. e ≡ NoObject → IsAbsentIn image n)) c.in_ok-view.ensures.object
    (path_absent image c.in_ok-view.view (c.in_ok-view.ensures.seen keeps) c.args.range whole.0 whole.1 c.read.result c.read.ensures.outside c.read.ensures.refused)

pub returns-clause-checked : goal.returns-clause-checked
returns-clause-checked g c = λ keeps.
    let D = g.D.SectorDevice in
    let v = c.in_ok-view.view in
    let seen = c.in_ok-view.ensures.seen keeps in
    path_checked (bytes_of (D.disk c.args.device.now).now) v seen c.args.range c.args.object.0 c.in_ok-view.ensures.object c.read.result
    (subst (λ (d : Disk). (is : IsObjectViewOf (bytes_of d.now) v) → IfOk c.read.result (IsCheckedRead (bytes_of d.now) is.u.root v c.args.range)) (c.view_object.ensures.reads.disk keeps)
    (c.read.ensures.checked keeps) seen)

pub returns-clause-unseen : goal.returns-clause-unseen
returns-clause-unseen g c = λ keeps.
    path_unseen (bytes_of (g.D.SectorDevice.disk c.args.device.now).now) c.in_ok-view.view (c.in_ok-view.ensures.seen keeps) c.args.range c.args.object.0 c.in_ok-view.ensures.object c.read.result c.read.ensures.refused

pub returns-clause-refused : goal.returns-clause-refused
returns-clause-refused g c =
    let D = g.D.SectorDevice in
    let v = c.in_ok-view.view in
    reading_refused _ (bytes_of (D.disk c.args.device.now).now) v c.args.object.0 c.args.range c.in_ok-view.ensures.object c.in_ok-view.ensures.seen c.read.result c.read.ensures.refused
    (λ keeps. subst (λ (d : Disk). (cs : Contents) → IsObjectViewOf (bytes_of d.now) v → MountsTo (bytes_of d.now) cs → IfErr c.read.result IsOfNoDamage) (c.view_object.ensures.reads.disk keeps) (c.read.ensures.sound keeps))
    (λ keeps. subst (λ (d : Disk). (is : IsObjectViewOf (bytes_of d.now) v) → IfErr c.read.result (TellsBetween (bytes_of d.now) is.u.root v c.args.range.low c.args.range.high)) (c.view_object.ensures.reads.disk keeps)
    (c.read.ensures.damage keeps))

pub returns-in_err-view-clause-refused : goal.returns-in_err-view-clause-refused
returns-in_err-view-clause-refused g c =
    let p = err_from_is_err_and c.from_residual.result c.from_residual.ensures.1 in
    rw (p.1, p.2) (viewing_refused g.D.SectorDevice c.args.object.0 c.args.range c.args.device.now _ c.in_err-view.field-0.0 c.in_err-view.ensures.refused)
