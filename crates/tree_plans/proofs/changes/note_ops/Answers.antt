use Rattle.std.proofs.Common.{◌++◌, ◌∷◌, [], take, append_assoc}
use Rattle.tree_plans.proofs.Marked.{front_more, told_more}
use Rattle.tree_plans.proofs.changes.note_ops.Goals as goal

pub loop-op-preserved : goal.loop-op-preserved
loop-op-preserved c = λ done told.
    let before = take c.loop-op.op-index c.args.ops.now in
    rw (front_more c.args.ops.now c.loop-op.op-index c.op-item.result c.loop-op-test.true c.op-item.is, ← append_assoc done before (c.op-item.result ∷ []))
    (told_more (done ++ before) c.op-item.result c.args.maps.now _ _ (c.loop-op.invariant done told) c.in_ok-note_op.ensures.noted)
