use Rattle.std.proofs.Common.{[], ◌∷◌}
use Rattle.base.specs.declared.operation.Op.TheVariants.{Remove, SetLength}
use Rattle.contents.specs.Judging.{with_name}
use Rattle.object_maps_clients.proofs.JudgedLists.{judged_err, remove-set_length}
use Rattle.object_maps_clients.proofs.judged.a_removed_object_is_not_there.Goals as goal

pub returns : goal.returns
returns g c =
    judged_err (Remove (record { 0 = 7 }) ∷ SetLength (record { 0 = 7 }) 5 ∷ []) (with_name (g.O.ObjectSource.objects c.args.objects.now) []) _ c.judge.result (c.judge.ensures [])
    (remove-set_length (g.O.ObjectSource.objects c.args.objects.now) c.requires)
