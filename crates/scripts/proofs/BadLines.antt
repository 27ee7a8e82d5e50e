-- A line that is read as a command, and whose command is a bad one as things stand.
use Rattle.std.proofs.Common.{inr}
use Rattle.std.specs.Prelude.{ℕ, List, Option, Result, Err, IfErr, Ok}
use Rattle.script_lines.specs.declared.answer.Answer.{Answer}
use Rattle.script_lines.specs.declared.command.Command.{Command}
use Rattle.script_lines.specs.Commands.{ReadsLine}
use Rattle.scripts.specs.declared.session.BadCommand.{BadCommand}
use Rattle.scripts.specs.Lines.{RunsBadLine}

module _ {S : Type 0} (runs : Command → S → Result Answer BadCommand → S → Type 0) (line : List ℕ) (asked : Command) (old new : S) (bad : BadCommand) where
  -- what ran it has told of the bad line
  pub tells_bad_line : (r : Result (Option Answer) BadCommand) → ReadsLine line (Ok asked) → runs asked old (Err bad) new → IfErr r (λ e. RunsBadLine runs line old e new)
  tells_bad_line (Ok told) reads ran = tt
  tells_bad_line (Err e) reads ran = inr (asked, reads, ran)
