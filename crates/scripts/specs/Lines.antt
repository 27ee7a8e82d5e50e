-- What a line does to what runs its commands.
use Rattle.std.specs.Prelude.{ℕ, ◌≡◌, ◌⊎◌, List, Result, Err, Ok}
use Rattle.std.specs.Str.{IsUtf8}
use Rattle.base.specs.declared.error.PoolError.TheVariants.{NoMemory}
use Rattle.base.specs.declared.step.Reply.TheVariants.{Refused}
use Rattle.script_lines.specs.declared.answer.Answer.{Answer}
use Rattle.script_lines.specs.declared.answer.Answer.TheVariants as answer
use Rattle.script_lines.specs.declared.command.Command.{Command}
use Rattle.script_lines.specs.declared.command.LineError.TheVariants as line_error
use Rattle.scripts.specs.declared.session.BadCommand.{BadCommand}
use Rattle.script_lines.specs.Commands.{ReadsLine}

-- What a line asks for is run and answered. For want of memory it is refused, and all is as it was.
abbrev pub RunsLine : {S : Type 0} → (Command → S → Result Answer BadCommand → S → Type 0) → List ℕ → S → Answer → S → Type 0
RunsLine runs line old told new = ((told ≡ answer.Reply (Refused NoMemory)) × (new ≡ old))
    ⊎ ((asked : Command) × ReadsLine line (Ok asked) × runs asked old (Ok told) new)

-- a line that is no UTF-8, or that is read as no command
abbrev pub IsNoCommand : List ℕ → Type 0
IsNoCommand line = (IsUtf8 line → ⊥) ⊎ ReadsLine line (Err line_error.BadCommand)

-- A bad line is no command, and all is as it was; or there isn't what its command needs.
abbrev pub RunsBadLine : {S : Type 0} → (Command → S → Result Answer BadCommand → S → Type 0) → List ℕ → S → BadCommand → S → Type 0
RunsBadLine runs line old e new = (IsNoCommand line × (new ≡ old)) ⊎ ((asked : Command) × ReadsLine line (Ok asked) × runs asked old (Err e) new)
