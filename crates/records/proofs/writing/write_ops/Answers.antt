use Rattle.records.proofs.WrittenOps.{op_has_room, op_small}
use Rattle.records.proofs.writing.write_ops.Goals as goal

pub write_op-requires-clause-small : goal.write_op-requires-clause-small
write_op-requires-clause-small c = op_small c.args.ops.now c.loop-op.op-index c.op-item.result c.loop-op-test.true c.op-item.is c.requires.small

pub write_op-requires-clause-room : goal.write_op-requires-clause-room
write_op-requires-clause-room c = op_has_room c.args.ops.now c.loop-op.op-index c.op-item.result c.loop-op-test.true c.op-item.is c.args.out.now c.loop-op.out c.requires.room c.loop-op.invariant
