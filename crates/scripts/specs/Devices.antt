-- What a create and an import make of the device, and what a refused one leaves of it.
use Rattle.std.specs.Prelude.{ℕ, ◌≡◌, ◌⊎◌, ◌*◌, ◌/◌, IsTrue, List}
use Rattle.base.specs.kept.Imports.{are_limits_allowed}
use Rattle.base.specs.declared.error.PoolError.{PoolError}
use Rattle.base.specs.declared.error.PoolError.TheVariants.{BadGeometry, BadRange, NoMemory}
use Rattle.base.specs.declared.step.Reply.TheVariants.{Done, Refused}
use Rattle.base.specs.disk.Calls.{with_refusal}
use Rattle.base.specs.disk.Disk.{CrashLeaves, bytes_of, certain}
use Rattle.base.specs.formats.Geometry.{IsGeometry}
use Rattle.device_model.specs.declared.device.SectorDevice.{Ghosts}
use Rattle.import_replay.specs.CreateRefusals.{IsCreateRefusal}
use Rattle.import_replay.specs.Creations.{IsNewPool}
use Rattle.import_replay.specs.ImportRefusals.{IsImportRefusal, IsReadingRefusal, IsReason, IsSyncRefusal}
use Rattle.import_replay.specs.ImportStops.{IsImportStopped}
use Rattle.import_replay.specs.ImportSyncs.{IsImportSynced}
use Rattle.mounted.specs.declared.mounted.Mounted.{Mounted}
use Rattle.script_lines.specs.Answers.{imported_answer}
use Rattle.script_lines.specs.declared.answer.Answer.{Answer}
use Rattle.script_lines.specs.declared.answer.Answer.TheVariants as answer
use Rattle.scripts.specs.declared.place.Place.{Place}
use Rattle.scripts.specs.declared.place.Place.TheVariants.{Nothing, Device}

-- a new device of this size is refused: no pool may have the size of its whole sectors, or there is no memory for them
abbrev pub IsNewDeviceRefusal : ℕ → PoolError → Type 0
IsNewDeviceRefusal size BadGeometry = IsGeometry (512 * (size / 512)) → ⊥
IsNewDeviceRefusal size NoMemory = IsGeometry (512 * (size / 512))
IsNewDeviceRefusal size e = ⊥

-- a new device of this size is refused, and there is none
abbrev pub MakesNoDevice : {Dev P : Type 0} → ℕ → Answer → Place Dev P → Type 0
MakesNoDevice size (answer.Reply (Refused e)) Nothing = IsNewDeviceRefusal size e
MakesNoDevice size told new = ⊥

module _ {Dev : Type 0} (V : Ghosts Dev) where
  -- A create leaves a new pool of this name, guid and moment, whatever a crash makes of it, on a device of the same
  -- size, which refused no call.
  pub record IsMadeByCreate (name : List ℕ) (guid moment : ℕ) (old new : Dev) : Type 0 where
    pub size : V.size new ≡ V.size old
    pub counted : V.refused new ≡ V.refused old
    pub written : IsTrue V.keeps_model → CrashLeaves (λ image. IsNewPool image name guid moment) (V.disk new).now

  -- A create of this name is refused, as one of this size and name is, and gives the device back, which has counted
  -- its refused call: as it was if the size or the name is the reason.
  pub record IsLeftByCreate (name : List ℕ) (old : Dev) (e : PoolError) (new : Dev) : Type 0 where
    pub size : V.size new ≡ V.size old
    pub refused : IsCreateRefusal (V.size old) name e
    pub counted : V.refused new ≡ with_refusal e (V.refused old)
    pub untouched : (e ≡ BadGeometry) ⊎ (e ≡ BadRange) → new ≡ old

  -- An import with these limits is refused, as one of this size, limits and image is, and gives the device back, which
  -- has counted its refused call: as it was if the limits are the reason, with the disk as it was and flushed if no
  -- write and no flush was refused, and else with what the calls before the refused one made of it.
  pub record IsLeftByImport (dirty_max cache_blocks moment : ℕ) (old : Dev) (e : PoolError) (new : Dev) : Type 0 where
    pub size : V.size new ≡ V.size old
    pub refused : IsImportRefusal (V.size old) (are_limits_allowed dirty_max cache_blocks) e
    pub counted : V.refused new ≡ with_refusal e (V.refused old)
    pub reason : IsTrue V.keeps_model → IsReason (bytes_of (V.disk old).now) e
    pub untouched : (e ≡ BadGeometry) ⊎ (e ≡ BadRange) → new ≡ old
    pub unchanged : IsTrue V.keeps_model → IsReadingRefusal e → V.disk new ≡ certain (bytes_of (V.disk old).now) (V.disk old)
    pub stopped : IsTrue V.keeps_model → IsSyncRefusal e → IsImportStopped (V.disk old) (V.disk new) moment e

  -- the import of a device with this limit and moment left this device, which refused no call, and mounted this
  pub record IsImportRun (dirty_max moment : ℕ) (old device : Dev) (mounted : Mounted) : Type 0 where
    pub limit : mounted.dirty_max ≡ dirty_max
    pub counted : V.refused device ≡ V.refused old
    pub synced : IsTrue V.keeps_model → IsImportSynced (V.disk old) (V.disk device) moment mounted

  -- a create on this device makes a pool, or it is refused
  abbrev pub CreatesOn : {P : Type 0} → List ℕ → ℕ → ℕ → Dev → Answer → Place Dev P → Type 0
  CreatesOn name guid moment old (answer.Reply Done) (Device new) = IsMadeByCreate name guid moment old new
  CreatesOn name guid moment old (answer.Reply (Refused e)) (Device new) = IsLeftByCreate name old e new
  CreatesOn name guid moment old told new = ⊥

  -- what an import with these limits and this moment mounted of a device is this pool, and the answer says so
  pub record IsMountedBy {P : Type 0} (Mounts : Dev → Dev → Mounted → ℕ → ℕ → P → Type 0) (dirty_max cache_blocks moment : ℕ) (old : Dev) (pool : P) (told : Answer) : Type 0 where
    pub device : Dev
    pub mounted : Mounted
    pub imported : IsImportRun dirty_max moment old device mounted
    pub told_is : told ≡ imported_answer mounted.group mounted.records
    pub mounts : Mounts old device mounted cache_blocks moment pool

  -- the import is refused so, or it is not, and its mount is
  abbrev pub IsLeftByMount : (PoolError → Type 0) → (dirty_max cache_blocks moment : ℕ) → Dev → PoolError → Dev → Type 0
  IsLeftByMount Refuses dirty_max cache_blocks moment old e new = IsLeftByImport dirty_max cache_blocks moment old e new ⊎ (Refuses e × ((m : Mounted) × IsImportRun dirty_max moment old new m))
