use Rattle.std.proofs.Common.{subst, arith}
use Rattle.std.proofs.lemmas.List.{take_all}
use Rattle.script_lines.specs.Shapes.{AreShapesOf, IsShapeOf}
use Rattle.script_lines.specs.Words.{Words}
use Rattle.script_lines.proofs.Zips.{zip_more}
use Rattle.script_lines.proofs.command.parse_shapes.Goals as goal

pub returns-clause-each : goal.returns-clause-each
returns-clause-each c =
    subst (λ (l : Words). AreShapesOf l c.loop-word.shapes.items) (take_all c.loop-word.word-index c.args.words.now c.loop-word-test.false) c.loop-word.invariant.1

pub loop-word-preserved : goal.loop-word-preserved
loop-word-preserved c = (
  omega (arith, c.in_ok-push.ensures.len, c.loop-word.invariant.0),
  rw c.in_ok-push.ensures.items
      (zip_more (λ w shape. IsShapeOf w.now shape) c.args.words.now c.loop-word.shapes.items c.loop-word.word-index _ c.in_ok-parse_shape.field-0 c.loop-word-test.true
      c.loop-word.invariant.1 c.in_ok-parse_shape.ensures.shape),
)
