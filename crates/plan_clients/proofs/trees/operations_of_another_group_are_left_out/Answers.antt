use Rattle.std.proofs.lemmas.Result.{IfOk-weaker}
use Rattle.plan_clients.proofs.Promises.{left_out}
use Rattle.plan_clients.proofs.trees.operations_of_another_group_are_left_out.Goals as goal

pub returns : goal.returns
returns c = IfOk-weaker c.changed_objects.result _ _ (λ objects told. left_out c.args.pending.now c.args.maps.now objects.entries c.requires told) c.changed_objects.ensures.changes
