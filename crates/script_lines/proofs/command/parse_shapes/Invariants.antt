use Rattle.std.proofs.Common.{◌≡◌, take, vec_len}
use Rattle.script_lines.specs.Shapes.{AreShapesOf}
use Rattle.script_lines.proofs.command.parse_shapes.Given as goal

-- the words so far have their shapes
abbrev pub invariant-loop-word : goal.invariant-loop-word
invariant-loop-word l = (vec_len l.shapes ≡ l.word-index) × AreShapesOf (take l.word-index l.words) l.shapes.items
