use Rattle.std.proofs.lemmas.Result.{IfOk-weaker}
use Rattle.plan_clients.proofs.Promises.{new_record}
use Rattle.plan_clients.proofs.trees.a_new_data_block_has_its_record.Goals as goal

pub returns : goal.returns
returns g c = IfOk-weaker c.plan.result _ _ (λ p told. new_record c.args.source.now (g.O.ObjectSource.objects c.args.after.now) c.args.objects.now p told) c.plan.ensures.tree
