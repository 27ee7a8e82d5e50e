use Rattle.std.proofs.Common.{ℕ, [], refl, subst, sym, ap, ◌∙◌}
use Rattle.std.specs.Prelude.{unwrap_or}
use Rattle.std.specs.FinMap as finite
use Rattle.std.proofs.lemmas.Result.{err_from_is_err_and, IfOk-weaker}
use Rattle.base.specs.disk.Disk.{Disk, bytes_of}
use Rattle.base.specs.formats.Fields.{part}
use Rattle.base.specs.tree.Mount.{MountsTo}
use Rattle.object_views.specs.ObjectViews.{IsObjectViewOf}
use Rattle.object_views.proofs.clients.a_view_of_an_object_reads_what_the_image_mounts.Goals as goal

pub returns-in_err-view-clause-sound : goal.returns-in_err-view-clause-sound
returns-in_err-view-clause-sound g c = λ keeps contents mounts.
    let p = err_from_is_err_and c.from_residual.result c.from_residual.ensures.1 in
    rw (p.1, p.2) (c.in_err-view.ensures.sound keeps contents mounts)

pub returns-clause-sound : goal.returns-clause-sound
returns-clause-sound g c = λ keeps contents mounts.
    let same = c.in_ok-view.ensures.reads.disk keeps in
    c.read.ensures.sound keeps contents (subst (λ (d : Disk). IsObjectViewOf (bytes_of d.now) c.in_ok-view.view) (sym same) (c.in_ok-view.ensures.seen keeps))
    (subst (λ (d : Disk). MountsTo (bytes_of d.now) contents) (sym same) mounts)

pub returns-clause-bytes : goal.returns-clause-bytes
returns-clause-bytes g c = λ keeps contents mounts there.
    let same = c.in_ok-view.ensures.reads.disk keeps in
    IfOk-weaker c.read.result _ _ (λ bytes read.
    read ∙ ap (λ (n : ℕ). part (unwrap_or (finite.get contents.objects n) []) 1 2) c.in_ok-view.ensures.object ∙ (rw there refl))
    (c.read.ensures.exact keeps contents (subst (λ (d : Disk). IsObjectViewOf (bytes_of d.now) c.in_ok-view.view) (sym same) (c.in_ok-view.ensures.seen keeps))
    (subst (λ (d : Disk). MountsTo (bytes_of d.now) contents) (sym same) mounts))
