-- What a look-up of a name gives, and a read after it.
use Rattle.std.proofs.Common.{◌≡◌, ℕ, List, Option, Result, Ok, Err, Some, subst, sym}
use Rattle.std.specs.Prelude.{IfOk, IsTrue}
use Rattle.base.specs.declared.error.PoolError.{PoolError}
use Rattle.base.specs.declared.names.ObjectId.{ObjectId}
use Rattle.base.specs.declared.range.Range.{Range}
use Rattle.base.specs.disk.Disk.{Disk, bytes_of}
use Rattle.command_arguments.specs.declared.reports.Scope.{Scope}
use Rattle.command_arguments.specs.declared.reports.Scope.TheVariants.{Path}
use Rattle.device_model.specs.declared.device.SectorDevice.{Ghosts}
use Rattle.file_devices.specs.declared.held_file.FileRefusal.{FileRefusal}
use Rattle.object_names.specs.NameTables.{IsNamed}
use Rattle.read_commands.specs.Checks.{IsOnlyRead}
use Rattle.read_commands.specs.PathReads.{IsCheckedRange}
use Rattle.read_commands.specs.ReadScopes.{WritesRange}
use Rattle.read_commands.specs.Reads.{IsMountedRange}
use Rattle.read_commands.specs.Scopes.{IsAssured}
use Rattle.read_commands.proofs.ScopedReads.{kept}
use Rattle.read_commands.specs.NamedObjects.{IsCheckedName, IsMountedName, WritesNamed}
use Rattle.read_commands.specs.NamedTables.{IsTableChecked, IsTableIn}
use Rattle.read_commands.specs.declared.name_causes.NameFailure.{NameFailure}

-- a name that was found in the table of what the image mounts
name_mounted : (image table name : List ℕ) (found : Result ObjectId NameFailure) → IsTableIn image (Some table) → IfOk found (λ n. IsNamed table n.0 name) → IfOk found (λ n. IsMountedName image name n.0)
name_mounted image table name (Ok n) (contents, mounts, (same, is)) named = (contents, mounts, (is, subst (λ (bytes : List ℕ). IsNamed bytes n.0 name) same named))
name_mounted image table name (Err failure) is named = tt

found_in : {A E : Type 0} (P : Option A → Type 0) (found : Result (Option A) E) (o : Option A) (x : A) → found ≡ Ok o → o ≡ Some x → IfOk found P → P (Some x)
found_in P found o x is some so = subst P some (subst (λ r. IfOk r P) is so)

-- it is found in the table that was read
pub name_found : (image table name : List ℕ) (read : Result (Option (List ℕ)) PoolError) (o : Option (List ℕ)) (found : Result ObjectId NameFailure) → read ≡ Ok o → o ≡ Some table → IfOk read (IsTableIn image)
    → IfOk found (λ n. IsNamed table n.0 name) → IfOk found (λ n. IsMountedName image name n.0)
name_found image table name read o found is some so named = name_mounted image table name found (found_in (IsTableIn image) read o table is some so) named

-- by path it is one of checked bytes
name_checked : (image table name : List ℕ) (found : Result ObjectId NameFailure) → IsTableChecked image (Some table) → IfOk found (λ n. IsNamed table n.0 name) → IfOk found (λ n. IsCheckedName image name n.0)
name_checked image table name (Ok n) is named = (table, is, named)
name_checked image table name (Err failure) is named = tt

pub name_found_checked : (image table name : List ℕ) (read : Result (Option (List ℕ)) PoolError) (o : Option (List ℕ)) (found : Result ObjectId NameFailure) → read ≡ Ok o → o ≡ Some table → IfOk read (IsTableChecked image)
    → IfOk found (λ n. IsNamed table n.0 name) → IfOk found (λ n. IsCheckedName image name n.0)
name_found_checked image table name read o found is some so named = name_checked image table name found (found_in (IsTableChecked image) read o table is some so) named

-- after a look-up the bytes of the object that has the name are written
module _ {Dev : Type 0} (D : Ghosts Dev) (opened : Result Dev FileRefusal) (old mid : Dev) (is : opened ≡ Ok old) (looks : IsOnlyRead D old mid) (scope : Scope) where
  abbrev keep : Type 0
  keep = IsTrue D.keeps_model

  same : IsAssured scope keep (bytes_of (D.disk old).now) → D.disk mid ≡ D.disk old
  same all = looks.disk (kept scope keep (bytes_of (D.disk old).now) all)

  moved : (n : ℕ) (range : Range) (before after : Option (List ℕ)) → WritesRange scope keep (bytes_of (D.disk mid).now) n range before after → WritesRange scope keep (bytes_of (D.disk old).now) n range before after
  moved n range before after w = record {
    bytes = w.bytes;
    mounted = λ all. subst (λ (d : Disk). IsMountedRange (bytes_of d.now) n range w.bytes) (same all) (w.mounted (subst (λ (d : Disk). IsAssured scope keep (bytes_of d.now)) (sym (same all)) all));
    checked = λ path keeps. subst (λ (d : Disk). IsCheckedRange (bytes_of d.now) n range w.bytes) (looks.disk keeps) (w.checked path keeps);
    writes = w.writes;
  }

  pub named_written : (name : List ℕ) (n : ℕ) (range : Range) (before after : Option (List ℕ)) → (IsAssured scope keep (bytes_of (D.disk old).now) → IsMountedName (bytes_of (D.disk old).now) name n)
      → (scope ≡ Path → keep → IsCheckedName (bytes_of (D.disk old).now) name n) → WritesRange scope keep (bytes_of (D.disk mid).now) n range before after
      → IfOk opened (λ device. WritesNamed scope (IsTrue D.keeps_model) (bytes_of (D.disk device).now) name range before after)
  named_written name n range before after mounted checked written =
      subst (λ (o : Result Dev FileRefusal). IfOk o (λ device. WritesNamed scope keep (bytes_of (D.disk device).now) name range before after)) (sym is)
      (record { object = n; mounted = mounted; checked = checked; writes = moved n range before after written })
