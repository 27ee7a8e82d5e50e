use Rattle.std.proofs.Common.{[], ◌∷◌}
use Rattle.base.specs.declared.operation.Op.TheVariants.{Create}
use Rattle.contents.specs.Judging.{with_name}
use Rattle.object_maps_clients.proofs.JudgedLists.{judged_err, create-again}
use Rattle.object_maps_clients.proofs.judged.an_object_is_created_once.Goals as goal

pub returns : goal.returns
returns g c =
    judged_err (Create (record { 0 = 7 }) ∷ []) (with_name (g.O.ObjectSource.objects c.args.objects.now) []) _ c.judge.result (c.judge.ensures [])
    (create-again (g.O.ObjectSource.objects c.args.objects.now) c.requires)
