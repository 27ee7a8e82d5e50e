-- The line that shows how far a command is.
use Rattle.std.specs.Prelude.{ℕ, ◌++◌, Bool, List, codes}
use Rattle.std.specs.Fmt.{decimal}
use Rattle.read_commands.specs.declared.progress_line.ProgressLine.{ProgressLine}

-- whether it is shown
abbrev pub shows_texts : {Run : Type 0} → ProgressLine Run → Bool
shows_texts line = line.is_shown

-- its text, of so many bytes and so many in a second
abbrev pub done_text : (bytes rate : ℕ) → List ℕ
done_text bytes rate = decimal bytes ++ (codes " bytes done, " ++ (decimal rate ++ codes " bytes in a second"))
