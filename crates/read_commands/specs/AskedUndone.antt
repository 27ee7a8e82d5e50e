-- Why a command that only reads is not done, whichever was asked for.
use Rattle.std.specs.Prelude.{ℕ, ◌⊎◌, IfOk, IsTrue, List, Option, Result}
use Rattle.base.specs.disk.Disk.{bytes_of}
use Rattle.command_arguments.specs.declared.arguments.ReadCommand.{ReadCommand}
use Rattle.command_arguments.specs.declared.arguments.ReadCommand.TheVariants as command
use Rattle.command_arguments.specs.declared.reports.ListForm.{ListForm}
use Rattle.command_arguments.specs.declared.reports.ListForm.TheVariants as list_form
use Rattle.command_arguments.specs.declared.reports.Scope.{Scope}
use Rattle.command_arguments.specs.declared.reports.ShowForm.{ShowForm}
use Rattle.command_arguments.specs.declared.reports.ShowForm.TheVariants as show_form
use Rattle.device_model.specs.declared.device.SectorDevice.{Ghosts}
use Rattle.file_devices.specs.declared.held_file.FileRefusal.{FileRefusal}
use Rattle.read_commands.specs.NamedObjects.{named_range}
use Rattle.read_commands.specs.NamedUndone.{GetsNamedUndone, NamesUndone}
use Rattle.read_commands.specs.Reads.{asked_range}
use Rattle.read_commands.specs.Undone.{ChecksUndone, GetsUndone, InspectsUndone, ListsUndone, ObjectsUndone}
use Rattle.read_commands.specs.Written.{WritesChecked}

module _ {Dev : Type 0} (D : Ghosts Dev) where
  -- a show and a list, by their forms
  abbrev pub ShowsUndone : ShowForm → Result Dev FileRefusal → Result Dev FileRefusal → ℕ → Type 0
  ShowsUndone show_form.Fast opened after status = ListsUndone D opened after status
  ShowsUndone show_form.Lines opened after status = InspectsUndone D opened after status
  ShowsUndone show_form.Json opened after status = InspectsUndone D opened after status

  abbrev pub ListUndone : ListForm → Scope → Result Dev FileRefusal → Result Dev FileRefusal → ℕ → Type 0
  ListUndone list_form.Short scope opened after status = NamesUndone D scope opened after status
  ListUndone list_form.Long scope opened after status = ObjectsUndone D scope opened after status
  ListUndone list_form.Json scope opened after status = ObjectsUndone D scope opened after status

  -- The command ended with this status, by what it left of what was opened. A check may have written what it found.
  abbrev pub EndsAsked : ReadCommand → Result Dev FileRefusal → Result Dev FileRefusal → ℕ → Option (List ℕ) → Option (List ℕ) → Type 0
  EndsAsked (command.Show given) opened after status old new = ShowsUndone given.form opened after status
  EndsAsked (command.Check given) opened after status old new =
      ChecksUndone D opened after status ⊎ IfOk opened (λ device. WritesChecked given.all given.form status (IsTrue D.keeps_model) (bytes_of (D.disk device).now) old new)
  EndsAsked (command.List given) opened after status old new = ListUndone given.form given.scope opened after status
  EndsAsked (command.Space given) opened after status old new = InspectsUndone D opened after status
  EndsAsked (command.Labels given) opened after status old new = ChecksUndone D opened after status
  EndsAsked (command.Get given scope) opened after status old new = GetsUndone D scope given.object (asked_range given) opened after status
  EndsAsked (command.GetNamed given scope) opened after status old new = GetsNamedUndone D scope given.name.now (named_range given) opened after status

  abbrev pub AskedUndone : ReadCommand → Result Dev FileRefusal → ℕ → Option (List ℕ) → Option (List ℕ) → Type 0
  AskedUndone asked opened status old new = (after : Result Dev FileRefusal) × EndsAsked asked opened after status old new
