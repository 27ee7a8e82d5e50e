use Rattle.base.proofs.tree.Strips.{record-low}
use Rattle.group_plans.specs.GroupPlans.{objects_with}
use Rattle.group_plans.specs.Prepared.{number_of_record}
use Rattle.group_plans.proofs.RecordReads.{cut_record, exact_more, on_ok}
use Rattle.group_plans.proofs.preparing.prepare_record.Goals as goal

pub put-requires-clause-index : goal.put-requires-clause-index
put-requires-clause-index g c = rw c.number.ensures (record-low c.args.place.strip c.args.place.index c.requires.strip c.requires.index)

pub returns-clause-exact : goal.returns-clause-exact
returns-clause-exact g c = λ keeps holds exact.
    let objects = objects_with c.args.prepared.now.extents.now c.args.prepared.now.tree.now in
    on_ok c.put.result (λ puts. exact_more objects c.args.place.id.0 (number_of_record c.args.place) c.put.new.payload _ _
    (cut_record objects c.args.place.id.0 (number_of_record c.args.place) c.read_record.new.into c.put.new.payload (rw c.number.ensures at c.put.ensures.cut) (rw c.number.ensures at c.put.ensures.front) (c.in_ok-read_record.ensures.exact keeps holds)) puts exact)
    (rw c.number.ensures at c.put.ensures.put)
