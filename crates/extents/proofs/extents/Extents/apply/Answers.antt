use Rattle.base.specs.history.Contents.{name_given_by_all}
use Rattle.extents.specs.Tables.{name_of, patches_of}
use Rattle.extents.specs.Patches.{with_ops}
use Rattle.extents.proofs.SamePatches.{next_applied, next_named, room_kept, rooms_kept}
use Rattle.extents.proofs.extents.Extents.apply.Goals as goal

pub loop-op-preserved : goal.loop-op-preserved
loop-op-preserved c = record {
  room = λ k d l. room_kept _ c.loop-op.self c.apply_op.new.self c.apply_op.ensures.kept (c.loop-op.invariant.room k d l);
  kept = λ ops can. rooms_kept c.loop-op.self c.apply_op.new.self c.apply_op.ensures.kept ops (c.loop-op.invariant.kept ops can);
  left = next_applied c.args.ops.now c.loop-op.op-index c.op-item.result (patches_of c.loop-op.self) (patches_of c.apply_op.new.self) (with_ops c.args.ops.now (patches_of c.args.self.now))
      c.loop-op-test.true c.op-item.is c.apply_op.ensures.applied c.loop-op.invariant.left;
  named = next_named c.args.ops.now c.loop-op.op-index c.op-item.result (name_of c.loop-op.self) (name_of c.apply_op.new.self) (name_given_by_all c.args.ops.now (name_of c.args.self.now))
      c.loop-op-test.true c.op-item.is c.apply_op.ensures.name c.loop-op.invariant.named;
}
