-- What a create and an import that were refused say of the image, and what they leave of the device.
use Rattle.std.specs.Prelude.{ℕ, ◌≡◌, ◌⊎◌, Bool, IsTrue, List}
use Rattle.base.specs.declared.error.PoolError.{PoolError}
use Rattle.base.specs.declared.error.PoolError.TheVariants.{BadGeometry, BadRange}
use Rattle.base.specs.disk.Disk.{Disk, bytes_of, certain}
use Rattle.base.specs.disk.DiskCalls.{IsStoppedIn}
use Rattle.device_model.specs.declared.device.SectorDevice.{Ghosts}
use Rattle.import_replay.specs.CreateCalls.{create_calls}
use Rattle.import_replay.specs.CreateRefusals.{IsCreateRefusal}
use Rattle.import_replay.specs.ImportRefusals.{FindsOwn, IsImportRefusal, IsReason, IsMountRefusal, IsReadingRefusal, IsSyncRefusal}
use Rattle.import_replay.specs.ImportStops.{IsImportStopped}
use Rattle.import_replay.specs.LabelSyncs.{ImportWrites, calls_of_import}

-- A create was refused: by size or name the device is as it was. If the device refused a call, those before it are
-- made, and none after it.
pub record IsCreateRefused {Dev : Type 0} (D : Ghosts Dev) (name : List ℕ) (guid moment : ℕ) (old new : Dev) (e : PoolError) : Type 0 where
  pub kind : IsCreateRefusal (D.size old) name e
  pub untouched : (e ≡ BadGeometry) ⊎ (e ≡ BadRange) → new ≡ old
  pub stopped : IsTrue D.keeps_model → IsSyncRefusal e → IsStoppedIn (create_calls (D.size old) name guid moment) e (D.disk old) (D.disk new)

-- The device refused a call of the sync of an import, which writes this.
pub record IsOpenRefused (keeps : Bool) (w : ImportWrites) (even_first : Bool) (old new : Disk) (e : PoolError) : Type 0 where
  pub kind : IsSyncRefusal e
  pub stopped : IsTrue keeps → IsStoppedIn (calls_of_import w even_first) e old new

-- An import that had begun was refused. Before its first write the disk is as it was and flushed; if the device refused
-- a write or a flush, the disk is what the calls before that made of it.
pub record IsMountRefused (keeps : Bool) (moment : ℕ) (old new : Disk) (e : PoolError) : Type 0 where
  pub kind : IsMountRefusal e
  pub reason : IsTrue keeps → IsReason (bytes_of old.now) e
  pub unchanged : IsTrue keeps → IsReadingRefusal e → new ≡ certain (bytes_of old.now) old
  pub stopped : IsTrue keeps → IsSyncRefusal e → IsImportStopped old new moment e

-- An import was refused: by size or limits the device is as it was, and after that the same holds.
pub record IsImportRefused {Dev : Type 0} (D : Ghosts Dev) (allowed : Bool) (moment : ℕ) (old new : Dev) (e : PoolError) : Type 0 where
  pub kind : IsImportRefusal (D.size old) allowed e
  pub reason : IsTrue D.keeps_model → IsReason (bytes_of (D.disk old).now) e
  pub found : IsTrue D.keeps_model → FindsOwn (D.disk old) e
  pub untouched : (e ≡ BadGeometry) ⊎ (e ≡ BadRange) → new ≡ old
  pub unchanged : IsTrue D.keeps_model → IsReadingRefusal e → D.disk new ≡ certain (bytes_of (D.disk old).now) (D.disk old)
  pub stopped : IsTrue D.keeps_model → IsSyncRefusal e → IsImportStopped (D.disk old) (D.disk new) moment e
