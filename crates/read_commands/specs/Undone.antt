-- How a command that only reads ends if it is not done: why, and with which status.
use Rattle.std.specs.Prelude.{ℕ, ◌≡◌, ◌⊎◌, IfOk, IsTrue, List, Result, Ok, Err}
use Rattle.base.specs.declared.names.ObjectId.{ObjectId}
use Rattle.base.specs.declared.error.PoolError.{PoolError}
use Rattle.base.specs.declared.range.Range.{Range}
use Rattle.base.specs.disk.Disk.{bytes_of}
use Rattle.base.specs.formats.Geometry.{IsGeometry}
use Rattle.device_model.specs.declared.device.SectorDevice.{Ghosts}
use Rattle.file_devices.specs.declared.held_file.FileRefusal.{FileRefusal}
use Rattle.command_arguments.specs.declared.reports.Scope.{Scope}
use Rattle.command_arguments.specs.declared.reports.Scope.TheVariants.{Path, Whole}
use Rattle.inspections.specs.Refused.{IsInspectionRefused}
use Rattle.object_views.specs.Listings.{IsListingOf, IsListingRefused}
use Rattle.object_views.specs.declared.listing.ListedPool.{ListedPool}
use Rattle.read_commands.specs.Checks.{IsCheckRefusal, MountsWhole}
use Rattle.read_commands.specs.Failures.{IsFailureFor, failure_status}
use Rattle.read_commands.specs.PathReads.{IsPathRefusal}
use Rattle.read_commands.specs.ReadScopes.{AreCheckedObjects, AreMountedObjects}
use Rattle.read_commands.specs.Reads.{IsReadersRefusal, MountsRange}
use Rattle.read_commands.specs.Scopes.{IsAssured}
use Rattle.read_commands.specs.declared.failure.Failure.{Failure}
use Rattle.read_commands.specs.declared.failure.Failure.TheVariants.{Unusable}

-- a look at what was opened failed so: the file was not opened, or the engine refused the look of the device
abbrev pub IsLookFailure : {Dev : Type 0} → (Dev → Dev → PoolError → Type 0) → Result Dev FileRefusal → Result Dev FileRefusal → Failure → Type 0
IsLookFailure R (Err cause) after why = why ≡ Unusable cause
IsLookFailure R (Ok old) (Ok new) why = (e : PoolError) × R old new e × IsFailureFor e why
IsLookFailure R (Ok old) (Err cause) why = ⊥

-- A command ended with this status, since its look failed, or since its output alone was not written. Then this is so of
-- the device.
abbrev pub EndsUndone : {Dev : Type 0} → (Dev → Dev → PoolError → Type 0) → (Dev → Type 0) → Result Dev FileRefusal → Result Dev FileRefusal → ℕ → Type 0
EndsUndone R F opened after status = ((why : Failure) × IsLookFailure R opened after why × (status ≡ failure_status why)) ⊎ ((status ≡ 3) × IfOk opened F)

module _ {Dev : Type 0} (D : Ghosts Dev) where
  -- a check of a device was refused so
  abbrev pub IsCheckRefused : Dev → Dev → PoolError → Type 0
  IsCheckRefused old new e = IsCheckRefusal (D.size old) e

  -- a read of a range of an object was refused so, and a list of the objects
  abbrev pub IsGetRefused : Scope → ℕ → Range → Dev → Dev → PoolError → Type 0
  IsGetRefused Whole object range old new e = IsReadersRefusal e
  IsGetRefused Path object range old new e = IsPathRefusal (IsTrue D.keeps_model) (bytes_of (D.disk old).now) object range e

  abbrev pub IsListRefused : Scope → Dev → Dev → PoolError → Type 0
  IsListRefused Whole old new e = IsInspectionRefused D old new e
  IsListRefused Path old new e = IsListingRefused D old new e

  -- the device has a whole pool, if it keeps the model; and there is such a range of an object in it
  abbrev pub HasWholePool : Dev → Type 0
  HasWholePool device = IsTrue D.keeps_model → MountsWhole (bytes_of (D.disk device).now)

  abbrev pub HasRange : Scope → ℕ → Range → Dev → Type 0
  HasRange scope object range device =
      IsAssured scope (IsTrue D.keeps_model) (bytes_of (D.disk device).now) → MountsRange (bytes_of (D.disk device).now) object range

  -- the root, the directories and the log say so of it; and these are its objects
  abbrev pub HasListing : Dev → Type 0
  HasListing device = IsTrue D.keeps_model → (l : ListedPool) × IsListingOf (bytes_of (D.disk device).now) l

  abbrev pub HasObjects : Scope → Dev → Type 0
  HasObjects scope device = (objects : List (ObjectId × ℕ))
      × (IsAssured scope (IsTrue D.keeps_model) (bytes_of (D.disk device).now) → AreMountedObjects (bytes_of (D.disk device).now) objects)
      × (scope ≡ Path → IsTrue D.keeps_model → AreCheckedObjects (bytes_of (D.disk device).now) objects)

  -- a pool may have its size
  abbrev pub HasGeometry : Dev → Type 0
  HasGeometry device = IsGeometry (D.size device)

  -- a command that writes what an inspection finds ended so, and one that writes a range
  abbrev pub InspectsUndone : Result Dev FileRefusal → Result Dev FileRefusal → ℕ → Type 0
  InspectsUndone opened after status = EndsUndone (IsInspectionRefused D) HasWholePool opened after status

  abbrev pub GetsUndone : Scope → ℕ → Range → Result Dev FileRefusal → Result Dev FileRefusal → ℕ → Type 0
  GetsUndone scope object range opened after status = EndsUndone (IsGetRefused scope object range) (HasRange scope object range) opened after status

  -- so did one that writes a listing, one that writes the objects, and one that writes what a check finds or the labels hold
  abbrev pub ListsUndone : Result Dev FileRefusal → Result Dev FileRefusal → ℕ → Type 0
  ListsUndone opened after status = EndsUndone (IsListingRefused D) HasListing opened after status

  abbrev pub ObjectsUndone : Scope → Result Dev FileRefusal → Result Dev FileRefusal → ℕ → Type 0
  ObjectsUndone scope opened after status = EndsUndone (IsListRefused scope) (HasObjects scope) opened after status

  abbrev pub ChecksUndone : Result Dev FileRefusal → Result Dev FileRefusal → ℕ → Type 0
  ChecksUndone opened after status = EndsUndone IsCheckRefused HasGeometry opened after status
