use Rattle.std.proofs.Common.{◌∙◌}
use Rattle.object_views.proofs.clients.paths_have_the_name_that_the_image_mounts.Goals as goal

pub returns : goal.returns
returns g c = λ keeps contents mounts tank.
    c.name.ensures.mounted c.in_ok-paths.ensures.fits.allowed _ (c.in_ok-paths.ensures.paths keeps) contents mounts ∙ tank
