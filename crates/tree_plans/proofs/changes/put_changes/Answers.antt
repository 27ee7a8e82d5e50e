use Rattle.std.specs.Cmp.{unsigned_tied}
use Rattle.tree_plans.proofs.Walks.{put_of}
use Rattle.tree_plans.proofs.changes.put_changes.Goals as goal

pub returns-clause-put : goal.returns-clause-put
returns-clause-put c = put_of _ (λ a b. unsigned_tied a.0 b.0) c.args.objects.now c.insert.new.self c.args.id c.args.changes c.in_ok-insert.ensures.updates.0
