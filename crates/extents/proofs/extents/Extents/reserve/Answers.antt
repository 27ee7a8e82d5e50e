use Rattle.base.specs.formats.Records.{is_content_allowed}
use Rattle.extents.proofs.SamePatches.{next_bytes, next_room, rooms_kept, left-trans}
use Rattle.extents.proofs.extents.Extents.reserve.Goals as goal

pub loop-op-preserved : goal.loop-op-preserved
loop-op-preserved c = record {
  room = next_room c.args.ops.now c.loop-op.op-index c.op-item.result c.loop-op.self c.reserve_for.new.self c.op-item.is c.in_ok-reserve_for.ensures.kept
      c.in_ok-reserve_for.ensures.room c.loop-op.invariant.room c.loop-op-test.true;
  bytes = next_bytes is_content_allowed c.args.ops.now c.loop-op.op-index c.op-item.result c.loop-op-test.true c.op-item.is c.loop-op.invariant.bytes c.in_ok-reserve_for.ensures.bytes;
  same = left-trans c.args.self.now c.loop-op.self c.reserve_for.new.self c.loop-op.invariant.same c.in_ok-reserve_for.ensures.same;
  kept = λ ops can. rooms_kept c.loop-op.self c.reserve_for.new.self c.in_ok-reserve_for.ensures.kept ops (c.loop-op.invariant.kept ops can);
}

pub returns-in_err-reserve_for-clause-kept : goal.returns-in_err-reserve_for-clause-kept
returns-in_err-reserve_for-clause-kept c = λ ops can. rooms_kept c.loop-op.self c.reserve_for.new.self c.reserve_for.ensures.kept ops (c.loop-op.invariant.kept ops can)
