use Rattle.std.proofs.Common.{◌∙◌, sym}
use Rattle.std.proofs.lemmas.List.Folds.{list_all_at}
use Rattle.base.specs.history.Plans.{is_shape_shrinking}
use Rattle.transactions.proofs.KeptRanges.{one_more_passes}
use Rattle.transactions.proofs.plan.is_shrinking.Goals as goal

pub returns-then-not-is_shape_shrinking : goal.returns-then-not-is_shape_shrinking
returns-then-not-is_shape_shrinking g c = λ d tells.
    sym (list_all_at (is_shape_shrinking d) c.args.plan.now c.loop-shape.shape-index _ c.loop-shape-test.true (sym (c.is_shape_shrinking.ensures d tells) ∙ c.if-not-is_shape_shrinking.true))

pub loop-shape-preserved : goal.loop-shape-preserved
loop-shape-preserved g c = λ d tells.
    one_more_passes (is_shape_shrinking d) c.args.plan.now c.loop-shape.shape-index _ c.loop-shape-test.true (c.loop-shape.invariant d tells) (sym (c.is_shape_shrinking.ensures d tells) ∙ c.if-not-is_shape_shrinking.false)
