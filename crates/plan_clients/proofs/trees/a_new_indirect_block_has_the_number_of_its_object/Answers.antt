use Rattle.std.proofs.lemmas.Result.{IfOk-weaker}
use Rattle.plan_clients.proofs.Promises.{new_indirect}
use Rattle.plan_clients.proofs.trees.a_new_indirect_block_has_the_number_of_its_object.Goals as goal

pub returns : goal.returns
returns g c = IfOk-weaker c.plan.result _ _ (λ p told. new_indirect c.args.source.now (g.O.ObjectSource.objects c.args.after.now) c.args.objects.now p told) c.plan.ensures.tree
