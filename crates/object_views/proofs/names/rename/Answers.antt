use Rattle.std.proofs.Common.{[], ◌∷◌, List, ap, refl, take, ◌∙◌}
use Rattle.std.proofs.lemmas.List.{take_all}
use Rattle.base.specs.declared.operation.Op.{Op}
use Rattle.object_views.specs.PoolNames.{name_after}
use Rattle.object_views.proofs.PoolNames.{each_op, named_next}
use Rattle.object_views.proofs.names.rename.Goals as goal

pub loop-op-init : goal.loop-op-init
loop-op-init c = refl

pub loop-op-preserved : goal.loop-op-preserved
loop-op-preserved c =
    named_next (λ (op : Op). op ∷ []) c.args.ops.now c.loop-op.op-index c.op-item.result c.loop-op-test.true c.op-item.is c.args.name.now c.loop-op.name c.rename_by.new.name
    c.loop-op.invariant c.rename_by.ensures

pub returns : goal.returns
returns c =
    c.loop-op.invariant ∙ ap (λ (ops : List Op). name_after ops c.args.name.now) (each_op (take c.loop-op.op-index c.args.ops.now) ∙ take_all c.loop-op.op-index c.args.ops.now c.loop-op-test.false)
