use Rattle.group_plans.proofs.SealedRecords.{stay_sealed}
use Rattle.group_plans.proofs.sealed_objects.SealedObjects.keep.Goals as goal

pub invariant_of-self : goal.invariant_of-self
invariant_of-self c = record {
  sealed = stay_sealed c.insert.result c.args.self.now.guid c.args.self.now.group.0 c.args.self.now.prepared.now.records c.args.self.now.blocks c.insert.new.self c.args.key c.args.block
      c.requires c.insert.ensures.updates c.insert.ensures.err c.args.self.now.sealed;
}
