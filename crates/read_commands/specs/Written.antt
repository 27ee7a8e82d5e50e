-- What each command that only reads has written once it is done.
use Rattle.std.specs.Prelude.{ℕ, Bool, true, false, List, Option}
use Rattle.command_arguments.specs.declared.arguments.ReadCommand.{ReadCommand}
use Rattle.command_arguments.specs.declared.arguments.ReadCommand.TheVariants as command
use Rattle.command_arguments.specs.declared.reports.ListForm.{ListForm}
use Rattle.command_arguments.specs.declared.reports.ListForm.TheVariants as list_form
use Rattle.command_arguments.specs.declared.reports.ReportForm.{ReportForm}
use Rattle.command_arguments.specs.declared.reports.ReportForm.TheVariants as report_form
use Rattle.command_arguments.specs.declared.reports.Scope.{Scope}
use Rattle.command_arguments.specs.declared.reports.ShowForm.{ShowForm}
use Rattle.command_arguments.specs.declared.reports.ShowForm.TheVariants as show_form
use Rattle.read_commands.specs.FoundDamages.{WritesAll, WritesOne}
use Rattle.read_commands.specs.Json.{PrintsAll, PrintsOne, json_listed, json_shown}
use Rattle.read_commands.specs.JsonLabels.{PrintsLabels}
use Rattle.read_commands.specs.LabelTexts.{WritesFour}
use Rattle.read_commands.specs.NamedLines.{WritesNames}
use Rattle.read_commands.specs.NamedObjects.{WritesNamed, named_range}
use Rattle.read_commands.specs.ObjectBlocks.{long_lines}
use Rattle.read_commands.specs.PoolLines.{WritesInspected, WritesListing, fast_lines, shown_lines}
use Rattle.read_commands.specs.ReadScopes.{WritesObjects, WritesRange}
use Rattle.read_commands.specs.Reads.{asked_range}
use Rattle.read_commands.specs.Space.{pool_space_lines}

-- what the image mounts, in lines or as JSON; or what its labels, its log and its directories say
abbrev pub WritesShown : ShowForm → Type 0 → List ℕ → Option (List ℕ) → Option (List ℕ) → Type 0
WritesShown show_form.Fast keeps image old new = WritesListing keeps image fast_lines old new
WritesShown show_form.Lines keeps image old new = WritesInspected keeps image shown_lines old new
WritesShown show_form.Json keeps image old new = WritesInspected keeps image json_shown old new

-- what a check of this status found of the pool; with all damages also what its labels lack
abbrev pub WritesChecked : Bool → ReportForm → ℕ → Type 0 → List ℕ → Option (List ℕ) → Option (List ℕ) → Type 0
WritesChecked false report_form.Lines status keeps image old new = WritesOne status keeps image old new
WritesChecked true report_form.Lines status keeps image old new = WritesAll status keeps image old new
WritesChecked false report_form.Json status keeps image old new = PrintsOne status keeps image old new
WritesChecked true report_form.Json status keeps image old new = PrintsAll status keeps image old new

-- the objects: with their names, with the most blocks that they may have, or as JSON
abbrev pub WritesList : ListForm → Scope → Type 0 → List ℕ → Option (List ℕ) → Option (List ℕ) → Type 0
WritesList list_form.Short scope keeps image old new = WritesNames scope keeps image old new
WritesList list_form.Long scope keeps image old new = WritesObjects scope keeps image long_lines old new
WritesList list_form.Json scope keeps image old new = WritesObjects scope keeps image json_listed old new

-- what the labels hold, in lines or as JSON
abbrev pub WritesLabels : ReportForm → Type 0 → List ℕ → Option (List ℕ) → Option (List ℕ) → Type 0
WritesLabels report_form.Lines keeps image old new = WritesFour keeps image old new
WritesLabels report_form.Json keeps image old new = PrintsLabels keeps image old new

-- what was asked for was written, after what the writer had
abbrev pub WritesAsked : ReadCommand → Type 0 → List ℕ → Option (List ℕ) → Option (List ℕ) → Type 0
WritesAsked (command.Show given) keeps image old new = WritesShown given.form keeps image old new
WritesAsked (command.Check given) keeps image old new = WritesChecked given.all given.form 0 keeps image old new
WritesAsked (command.List given) keeps image old new = WritesList given.form given.scope keeps image old new
WritesAsked (command.Space given) keeps image old new = WritesInspected keeps image (pool_space_lines given.unit) old new
WritesAsked (command.Labels given) keeps image old new = WritesLabels given.form keeps image old new
WritesAsked (command.Get given scope) keeps image old new = WritesRange scope keeps image given.object (asked_range given) old new
WritesAsked (command.GetNamed given scope) keeps image old new = WritesNamed scope keeps image given.name.now (named_range given) old new
