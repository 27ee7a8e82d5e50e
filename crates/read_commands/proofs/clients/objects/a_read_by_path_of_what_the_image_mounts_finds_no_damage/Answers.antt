use Rattle.std.proofs.lemmas.Result.{IfErr-weaker}
use Rattle.read_commands.proofs.clients.objects.a_read_by_path_of_what_the_image_mounts_finds_no_damage.Goals as goal

pub returns : goal.returns
returns g c = λ keeps contents mounts. IfErr-weaker c.read_object.result.0 _ _ (λ e refused. refused.undamaged keeps (contents, mounts)) c.read_object.ensures.refused
