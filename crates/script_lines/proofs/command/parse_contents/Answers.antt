use Rattle.std.proofs.Common.{List, ℕ, subst, arith}
use Rattle.std.specs.Borrow.{Bor}
use Rattle.std.proofs.lemmas.List.{take_all}
use Rattle.script_lines.specs.Copies.{AreContentsOf, IsContentOf}
use Rattle.script_lines.proofs.Zips.{zip_more}
use Rattle.script_lines.proofs.command.parse_contents.Goals as goal

pub returns-clause-each : goal.returns-clause-each
returns-clause-each c =
    subst (λ (l : List (Bor (List ℕ))). AreContentsOf l c.loop-word.contents.items) (take_all c.loop-word.word-index c.args.words.now c.loop-word-test.false) c.loop-word.invariant.1

pub loop-word-preserved : goal.loop-word-preserved
loop-word-preserved c = (
  omega (arith, c.in_ok-push.ensures.len, c.loop-word.invariant.0),
  rw c.in_ok-push.ensures.items
      (zip_more (λ word bytes. IsContentOf word.now bytes) c.args.words.now c.loop-word.contents.items c.loop-word.word-index _ c.in_ok-parse_content.field-0 c.loop-word-test.true c.loop-word.invariant.1
      c.in_ok-parse_content.ensures.content),
)
