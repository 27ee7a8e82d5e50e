-- Whichever command was asked for ended as its own report says.
use Rattle.std.proofs.Common.{◌≡◌, ◌⊎◌, ℕ, List, Option, Result, subst, sym}
use Rattle.std.specs.Prelude.{Bool, IfOk, IsTrue}
use Rattle.base.specs.disk.Disk.{bytes_of}
use Rattle.command_arguments.specs.declared.arguments.CheckArguments.{CheckArguments}
use Rattle.command_arguments.specs.declared.arguments.GetArguments.{GetArguments}
use Rattle.command_arguments.specs.declared.arguments.GetNamedArguments.{GetNamedArguments}
use Rattle.command_arguments.specs.declared.arguments.ReadCommand.{ReadCommand}
use Rattle.command_arguments.specs.declared.arguments.ReadCommand.TheVariants as command
use Rattle.command_arguments.specs.declared.reports.ReportForm.{ReportForm}
use Rattle.command_arguments.specs.declared.reports.Scope.{Scope}
use Rattle.device_model.specs.declared.device.SectorDevice.{Ghosts}
use Rattle.file_devices.specs.declared.held_file.FileRefusal.{FileRefusal}
use Rattle.read_commands.specs.AskedUndone.{AskedUndone}
use Rattle.read_commands.specs.NamedObjects.{named_range}
use Rattle.read_commands.specs.NamedUndone.{GetsNamedUndone}
use Rattle.read_commands.specs.Reads.{asked_range}
use Rattle.read_commands.specs.Undone.{ChecksUndone, GetsUndone}
use Rattle.read_commands.specs.Written.{WritesChecked}

module _ {Dev : Type 0} (D : Ghosts Dev) (opened after : Result Dev FileRefusal) (status : ℕ) (old new : Option (List ℕ)) where
  -- a check, of this form
  abbrev Ended : Bool → ReportForm → Type 0
  Ended all form = ChecksUndone D opened after status ⊎ IfOk opened (λ device. WritesChecked all form status (IsTrue D.keeps_model) (bytes_of (D.disk device).now) old new)

  pub check_ended : (given : CheckArguments) (all : Bool) (form : ReportForm) → given.all ≡ all → given.form ≡ form → Ended all form → AskedUndone D (command.Check given) opened status old new
  check_ended given all form same_all same_form ended = (after, subst (λ (a : Bool). Ended a given.form) (sym same_all) (subst (λ (f : ReportForm). Ended all f) (sym same_form) ended))

  -- a get, of a number or a name
  pub get_ended : (asked : ReadCommand) (given : GetArguments) (scope : Scope) → asked ≡ command.Get given scope → GetsUndone D scope given.object (asked_range given) opened after status → AskedUndone D asked opened status old new
  get_ended asked given scope is ended = subst (λ (a : ReadCommand). AskedUndone D a opened status old new) (sym is) (after, ended)

  pub named_get_ended : (asked : ReadCommand) (given : GetNamedArguments) (scope : Scope) → asked ≡ command.GetNamed given scope → GetsNamedUndone D scope given.name.now (named_range given) opened after status → AskedUndone D asked opened status old new
  named_get_ended asked given scope is ended = subst (λ (a : ReadCommand). AskedUndone D a opened status old new) (sym is) (after, ended)
