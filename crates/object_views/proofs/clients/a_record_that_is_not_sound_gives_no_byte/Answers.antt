use Rattle.std.proofs.lemmas.Result.{IfOk-weaker}
use Rattle.object_views.proofs.SeenBytes.{none_checked}
use Rattle.object_views.proofs.clients.a_record_that_is_not_sound_gives_no_byte.Goals as goal

pub returns : goal.returns
returns g c = λ keeps seen unsound not_own.
    IfOk-weaker c.read.result _ _ (λ bytes read. none_checked _ seen.u.root c.args.view.now bytes unsound not_own read.checked) (c.read.ensures.checked keeps seen)
