use Rattle.std.proofs.Common.{List, Ok, subst}
use Rattle.std.proofs.lemmas.List.{take_all}
use Rattle.std.proofs.lemmas.Result.{err_from_is_err_and}
use Rattle.base.specs.declared.operation.Op.{Op}
use Rattle.object_views.specs.OwnRecords.{AddsOwn, own_op, own_ops}
use Rattle.object_views.proofs.OwnRecords.{adds_next, adds_stop, passed}
use Rattle.object_views.proofs.own_records.OwnObject.add_ops.Goals as goal

pub loop-op-init : goal.loop-op-init
loop-op-init c = passed c.args.self.now.id.0 c.args.self.now.size c.args.changes.now

pub returns-in_err-add_op : goal.returns-in_err-add_op
returns-in_err-add_op c =
    let o = c.args.self.now in
    let p = err_from_is_err_and c.from_residual.result c.from_residual.ensures.1 in
    rw (p.1, p.2)
    (adds_stop o.id.0 o.size (own_op o.id.0 c.args.address) c.args.ops.now c.loop-op.op-index c.op-item.result c.loop-op-test.true c.op-item.is c.args.changes.now c.loop-op.changes c.loop-op.invariant
    c.in_err-add_op.field-0.0 c.add_op.new.changes c.add_op.new.changes c.in_err-add_op.ensures)

pub loop-op-preserved : goal.loop-op-preserved
loop-op-preserved c =
    let o = c.args.self.now in
    adds_next o.id.0 o.size (own_op o.id.0 c.args.address) c.args.ops.now c.loop-op.op-index c.op-item.result c.loop-op-test.true c.op-item.is c.args.changes.now c.loop-op.changes c.loop-op.invariant
    c.add_op.new.changes c.in_ok-add_op.ensures

pub returns : goal.returns
returns c =
    let o = c.args.self.now in
    subst (λ (ops : List Op). AddsOwn o.id.0 o.size (own_ops o.id.0 c.args.address ops) c.args.changes.now (Ok tt) c.loop-op.changes) (take_all c.loop-op.op-index c.args.ops.now c.loop-op-test.false)
    c.loop-op.invariant
