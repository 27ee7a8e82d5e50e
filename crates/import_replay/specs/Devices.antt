-- What the calls of this crate need of a device, and what they keep of it.
use Rattle.std.specs.Prelude.{◌≡◌, ℕ, IfErr, Result}
use Rattle.base.specs.declared.error.PoolError.{PoolError}
use Rattle.base.specs.disk.Calls.{counted}
use Rattle.base.specs.formats.Geometry.{IsGeometry}
use Rattle.device_model.specs.declared.device.SectorDevice.{Ghosts}
use Rattle.import_replay.specs.ImportRefusals.{CanImport, IsSyncRefusal}

-- the device has so many bytes, as the device of a pool may
pub record IsSizedFor {Dev : Type 0} (D : Ghosts Dev) (bytes : ℕ) (device : Dev) : Type 0 where
  pub size : D.size device ≡ bytes
  pub geometry : IsGeometry bytes

-- the device has so many bytes, and an import of so many with this limit may begin
pub record CanImportOn {Dev : Type 0} (D : Ghosts Dev) (bytes dirty_max : ℕ) (device : Dev) : Type 0 where
  pub size : D.size device ≡ bytes
  pub allowed : CanImport bytes dirty_max

-- the device keeps its size, and counted a refusal of its own exactly if the answer is that refusal
pub record KeepsDevice {T Dev : Type 0} (D : Ghosts Dev) (result : Result T PoolError) (old new : Dev) : Type 0 where
  pub size : D.size new ≡ D.size old
  pub count : D.refused new ≡ counted result (D.refused old)

-- Writes and flushes, in order, and the first refusal ends them: the device keeps its size, and counted that refusal.
pub record WritesAndFlushes {Dev : Type 0} (D : Ghosts Dev) (result : Result (Unit {0}) PoolError) (old new : Dev) : Type 0 where
  pub size : D.size new ≡ D.size old
  pub count : D.refused new ≡ counted result (D.refused old)
  pub refused : IfErr result IsSyncRefusal
