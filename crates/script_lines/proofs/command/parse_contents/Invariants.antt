use Rattle.std.proofs.Common.{◌≡◌, take, vec_len}
use Rattle.script_lines.specs.Copies.{AreContentsOf}
use Rattle.script_lines.proofs.command.parse_contents.Given as goal

-- the words so far have their bytes
abbrev pub invariant-loop-word : goal.invariant-loop-word
invariant-loop-word l = (vec_len l.contents ≡ l.word-index) × AreContentsOf (take l.word-index l.words) l.contents.items
