use Rattle.std.proofs.Common.{◌∙◌}
use Rattle.std.proofs.lemmas.Result.{IfOk-weaker}
use Rattle.object_views.proofs.clients.a_list_has_the_lengths_of_what_the_image_mounts.Goals as goal

pub returns : goal.returns
returns g c = λ keeps m mounted is. IfOk-weaker c.list_pool.result _ _ (λ l lists. lists.objects_are ∙ is) (c.list_pool.ensures.mounted keeps m mounted)
