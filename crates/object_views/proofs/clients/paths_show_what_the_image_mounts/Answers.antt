use Rattle.std.proofs.Common.{ℕ, [], refl, subst, sym, ap, ◌∙◌}
use Rattle.std.specs.Prelude.{unwrap_or}
use Rattle.std.specs.FinMap as finite
use Rattle.std.proofs.lemmas.Result.{IfOk-weaker}
use Rattle.base.specs.disk.Disk.{Disk, bytes_of}
use Rattle.base.specs.formats.Fields.{part}
use Rattle.base.specs.tree.Mount.{MountsTo}
use Rattle.import_replay.proofs.Reasons.{passed_on}
use Rattle.object_views.specs.ObjectViews.{IsObjectViewOf}
use Rattle.object_views.specs.PoolPaths.{ArePathsOf}
use Rattle.object_views.proofs.clients.paths_show_what_the_image_mounts.Goals as goal

pub returns-in_err-paths-clause-sound : goal.returns-in_err-paths-clause-sound
returns-in_err-paths-clause-sound g c = λ keeps contents mounts.
    passed_on c.from_residual.result c.in_err-paths.field-0.0 _ c.from_residual.ensures.1 c.in_err-paths.ensures.refused.undamaged

pub returns-in_err-view-clause-sound : goal.returns-in_err-view-clause-sound
returns-in_err-view-clause-sound g c = λ keeps contents mounts.
    let first = c.in_ok-paths.ensures.reads.disk keeps in
    let paths = subst (λ (d : Disk). ArePathsOf (bytes_of d.now) c.in_ok-paths.paths) (sym first) (c.in_ok-paths.ensures.paths keeps) in
    passed_on c.from_residual-in_err-view.result c.in_err-view.field-0.0 _ c.from_residual-in_err-view.ensures.1
    (c.in_err-view.ensures.sound keeps paths contents (subst (λ (d : Disk). MountsTo (bytes_of d.now) contents) (sym first) mounts))

pub returns-clause-sound : goal.returns-clause-sound
returns-clause-sound g c = λ keeps contents mounts.
    let first = c.in_ok-paths.ensures.reads.disk keeps in
    let second = c.in_ok-view.ensures.reads.disk keeps in
    let paths = subst (λ (d : Disk). ArePathsOf (bytes_of d.now) c.in_ok-paths.paths) (sym first) (c.in_ok-paths.ensures.paths keeps) in
    c.read.ensures.sound keeps contents (subst (λ (d : Disk). IsObjectViewOf (bytes_of d.now) c.in_ok-view.view) (sym second) (c.in_ok-view.ensures.seen keeps paths))
    (subst (λ (d : Disk). MountsTo (bytes_of d.now) contents) (sym (second ∙ first)) mounts)

pub returns-clause-bytes : goal.returns-clause-bytes
returns-clause-bytes g c = λ keeps contents mounts there.
    let first = c.in_ok-paths.ensures.reads.disk keeps in
    let second = c.in_ok-view.ensures.reads.disk keeps in
    let paths = subst (λ (d : Disk). ArePathsOf (bytes_of d.now) c.in_ok-paths.paths) (sym first) (c.in_ok-paths.ensures.paths keeps) in
    IfOk-weaker c.read.result _ _ (λ bytes read.
    read ∙ ap (λ (n : ℕ). part (unwrap_or (finite.get contents.objects n) []) 1 2) c.in_ok-view.ensures.object ∙ (rw there refl))
    (c.read.ensures.exact keeps contents (subst (λ (d : Disk). IsObjectViewOf (bytes_of d.now) c.in_ok-view.view) (sym second) (c.in_ok-view.ensures.seen keeps paths))
    (subst (λ (d : Disk). MountsTo (bytes_of d.now) contents) (sym (second ∙ first)) mounts))
