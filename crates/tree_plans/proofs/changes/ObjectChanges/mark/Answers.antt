use Rattle.std.proofs.Common.{◌∙◌}
use Rattle.base.specs.formats.Limits.{record_count}
use Rattle.tree_plans.proofs.DirtyRecords.{touched}
use Rattle.tree_plans.specs.Changes.{state_at}
use Rattle.tree_plans.proofs.changes.ObjectChanges.mark.Goals as goal

pub returns-clause-records : goal.returns-clause-records
returns-clause-records c = λ r low. c.loop-index.invariant.marked r
    ∙ touched c.first_touched-first.result c.touched_end-end.result c.args.offset c.args.count record_count c.first_touched-first.ensures c.touched_end-end.ensures
    c.loop-index.index r (state_at c.args.self.now r) c.loop-index-test.false c.loop-index.auto.index-end low
