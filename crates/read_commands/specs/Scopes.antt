-- What a command may say of an image by how much of it was read.
use Rattle.std.specs.Prelude.{List, ℕ}
use Rattle.command_arguments.specs.declared.reports.Scope.{Scope}
use Rattle.command_arguments.specs.declared.reports.Scope.TheVariants.{Path, Whole}
use Rattle.read_commands.specs.Checks.{MountsWhole}

-- The device keeps the model. If only the blocks that lead to what is asked for are read, the image mounts, too: nothing
-- else says so.
abbrev pub IsAssured : Scope → Type 0 → List ℕ → Type 0
IsAssured Whole keeps image = keeps
IsAssured Path keeps image = keeps × MountsWhole image
