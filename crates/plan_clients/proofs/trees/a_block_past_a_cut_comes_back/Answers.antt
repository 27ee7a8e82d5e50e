use Rattle.plan_clients.proofs.Promises.{cut_back, ok_both}
use Rattle.plan_clients.proofs.trees.a_block_past_a_cut_comes_back.Goals as goal

pub returns : goal.returns
returns g c = ok_both c.plan.result _ _ _ (λ p told back.
    cut_back c.args.source.now (g.O.ObjectSource.objects c.args.after.now) c.args.objects.now p told back c.requires.object c.requires.block) c.plan.ensures.tree c.plan.ensures.freed
