use Rattle.std.proofs.Common.{[], ◌∷◌}
use Rattle.base.specs.declared.operation.Op.TheVariants.{Create, Remove}
use Rattle.contents.specs.Judging.{with_name}
use Rattle.object_maps_clients.proofs.JudgedLists.{judged_ok, create-remove}
use Rattle.object_maps_clients.proofs.judged.a_created_object_may_be_removed.Goals as goal

pub returns : goal.returns
returns g c =
    judged_ok (Create (record { 0 = 7 }) ∷ Remove (record { 0 = 7 }) ∷ []) (with_name (g.O.ObjectSource.objects c.args.objects.now) []) _ c.judge.result (c.judge.ensures [])
    (create-remove (g.O.ObjectSource.objects c.args.objects.now) c.requires)
