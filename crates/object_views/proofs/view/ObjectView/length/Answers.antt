use Rattle.std.proofs.Common.{ap, ◌∙◌}
use Rattle.extents.specs.Patches.{length_over}
use Rattle.object_views.specs.ObjectViews.{patch_seen}
use Rattle.object_views.proofs.ObjectViews.{mounted_length}
use Rattle.object_views.proofs.view.ObjectView.length.Goals as goal

pub returns-clause-mounted : goal.returns-clause-mounted
returns-clause-mounted c = λ image contents seen low mounts.
    let v = c.args.self.now in
    c.length_over.ensures ∙ ap (length_over (patch_seen v).basis) c.length_of.ensures ∙ mounted_length image v seen contents mounts low
