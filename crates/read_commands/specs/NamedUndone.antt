-- How a command that reads by a name ends if it is not done, and a list of the objects with their names.
use Rattle.std.specs.Prelude.{ℕ, ◌≡◌, ◌⊎◌, false, IsTrue, List, None, Option, Ok, Err, Result, Some}
use Rattle.base.specs.declared.error.PoolError.{PoolError}
use Rattle.base.specs.declared.range.Range.{Range}
use Rattle.base.specs.disk.Disk.{bytes_of}
use Rattle.command_arguments.specs.declared.reports.Scope.{Scope}
use Rattle.command_arguments.specs.declared.reports.Scope.TheVariants.{Path}
use Rattle.device_model.specs.declared.device.SectorDevice.{Ghosts}
use Rattle.file_devices.specs.declared.held_file.FileRefusal.{FileRefusal}
use Rattle.object_names.specs.Names.{is_name}
use Rattle.read_commands.specs.Failures.{IsFailureFor}
use Rattle.read_commands.specs.NameFailures.{name_failure_status}
use Rattle.read_commands.specs.NamedLines.{IsListedIn}
use Rattle.read_commands.specs.NamedObjects.{IsCheckedName, IsMountedName, IsUnknown}
use Rattle.read_commands.specs.NamedTables.{IsTableChecked, IsTableIn, table_range}
use Rattle.read_commands.specs.Scopes.{IsAssured}
use Rattle.read_commands.specs.Undone.{EndsUndone, GetsUndone, IsGetRefused, IsListRefused}
use Rattle.read_commands.specs.declared.name_causes.NameCause.TheVariants.{NoName, NoNumber, NoTable, Unknown}
use Rattle.read_commands.specs.declared.name_causes.NameFailure.{NameFailure}
use Rattle.read_commands.specs.declared.name_causes.NameFailure.TheVariants.{Name, Plain}
use Rattle.read_commands.specs.declared.named_lists.NamedList.{NamedList}

-- The table of names, as it was read, is that of what the image mounts, if that is assured. If it was read by path, it is
-- checked. It is none if object 0 is of another use.
pub record IsTableFound (scope : Scope) (keeps : Type 0) (image : List ℕ) (table : Option (List ℕ)) : Type 0 where
  pub mounted : IsAssured scope keeps image → IsTableIn image table
  pub checked : scope ≡ Path → keeps → IsTableChecked image table

-- so this object has the name in the table that was read
pub record IsNameFound (scope : Scope) (keeps : Type 0) (image name : List ℕ) (n : ℕ) : Type 0 where
  pub mounted : IsAssured scope keeps image → IsMountedName image name n
  pub checked : scope ≡ Path → keeps → IsCheckedName image name n

module _ {Dev : Type 0} (D : Ghosts Dev) where
  -- A look-up of a name failed so: the name is none, object 0 is no table, no object has the name in the table, or the
  -- read of the table was refused.
  abbrev pub IsFindFailure : Scope → List ℕ → Dev → Dev → NameFailure → Type 0
  IsFindFailure scope name old new (Name NoName) = is_name name ≡ false
  IsFindFailure scope name old new (Name NoTable) = IsTableFound scope (IsTrue D.keeps_model) (bytes_of (D.disk old).now) None
  IsFindFailure scope name old new (Name Unknown) =
      (table : List ℕ) × IsTableFound scope (IsTrue D.keeps_model) (bytes_of (D.disk old).now) (Some table) × IsUnknown table name
  IsFindFailure scope name old new (Name NoNumber) = ⊥
  IsFindFailure scope name old new (Plain why) = (e : PoolError) × IsGetRefused D scope 0 table_range old new e × IsFailureFor e why

  -- A get by name was not done: the file was not opened, the look-up of the name failed, or so ended the get of the object
  -- that was found.
  abbrev pub GetsNamedUndone : Scope → List ℕ → Range → Result Dev FileRefusal → Result Dev FileRefusal → ℕ → Type 0
  GetsNamedUndone scope name range (Err cause) after status = status ≡ 3
  GetsNamedUndone scope name range (Ok old) after status =
      ((why : NameFailure) × (new : Dev) × (after ≡ Ok new) × IsFindFailure scope name old new why × (status ≡ name_failure_status why))
      ⊎ ((n : ℕ) × IsNameFound scope (IsTrue D.keeps_model) (bytes_of (D.disk old).now) name n × GetsUndone D scope n range (Ok old) after status)

  -- a list with names was refused so: that of the objects, or the read of the table
  abbrev pub IsNamesRefused : Scope → Dev → Dev → PoolError → Type 0
  IsNamesRefused scope old new e = IsListRefused D scope old new e ⊎ IsGetRefused D scope 0 table_range old new e

  -- there is such a list of the device; and a command that writes it ended so
  abbrev pub HasNames : Scope → Dev → Type 0
  HasNames scope device = (list : NamedList) × IsListedIn scope (IsTrue D.keeps_model) (bytes_of (D.disk device).now) list

  abbrev pub NamesUndone : Scope → Result Dev FileRefusal → Result Dev FileRefusal → ℕ → Type 0
  NamesUndone scope opened after status = EndsUndone (IsNamesRefused scope) (HasNames scope) opened after status
