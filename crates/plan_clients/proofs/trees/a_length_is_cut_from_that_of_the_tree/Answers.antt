use Rattle.std.proofs.lemmas.Result.{IfOk-weaker}
use Rattle.tree_plans.specs.Marks.{pending_ops}
use Rattle.plan_clients.proofs.Promises.{is_cut, is_told}
use Rattle.plan_clients.proofs.trees.a_length_is_cut_from_that_of_the_tree.Goals as goal

pub returns-clause-there : goal.returns-clause-there
returns-clause-there c = IfOk-weaker c.changed_objects.result _ _ (λ objects told. is_told (pending_ops 5 c.args.pending.now) c.args.maps.now objects.entries c.requires.ops told) c.changed_objects.ensures.changes

pub returns-clause-cut : goal.returns-clause-cut
returns-clause-cut c = IfOk-weaker c.changed_objects.result _ _ (λ objects told. is_cut (pending_ops 5 c.args.pending.now) c.args.maps.now objects.entries c.requires.ops told c.requires.length) c.changed_objects.ensures.changes
