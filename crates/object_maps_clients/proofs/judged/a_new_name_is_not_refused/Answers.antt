use Rattle.std.proofs.Common.{[], ◌∷◌, refl}
use Rattle.base.specs.declared.operation.Op.TheVariants.{SetName}
use Rattle.contents.specs.Judging.{with_name}
use Rattle.object_maps_clients.proofs.JudgedLists.{judged_ok}
use Rattle.object_maps_clients.proofs.judged.a_new_name_is_not_refused.Goals as goal

pub returns : goal.returns
returns g c = judged_ok (SetName c.args.name ∷ []) (with_name (g.O.ObjectSource.objects c.args.objects.now) []) _ c.judge.result (c.judge.ensures []) refl
