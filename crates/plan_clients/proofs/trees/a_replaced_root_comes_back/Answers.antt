use Rattle.plan_clients.proofs.Promises.{ok_both, root_back}
use Rattle.plan_clients.proofs.trees.a_replaced_root_comes_back.Goals as goal

pub returns : goal.returns
returns g c = ok_both c.plan.result _ _ _ (λ p told back.
    root_back c.args.source.now (g.O.ObjectSource.objects c.args.after.now) c.args.objects.now p told c.requires.touched c.requires.root back) c.plan.ensures.tree c.plan.ensures.freed
