-- What a call that writes nothing leaves of a device.
use Rattle.std.specs.Prelude.{◌≡◌, IsTrue, Result}
use Rattle.base.specs.declared.error.PoolError.{PoolError}
use Rattle.base.specs.disk.Calls.{counted}
use Rattle.device_model.specs.declared.device.SectorDevice.{Ghosts}

-- It keeps its size, and its disk where it keeps the model; it refused a call exactly if the answer is its refusal.
pub record OnlyReads {T Dev : Type 0} (D : Ghosts Dev) (result : Result T PoolError) (old new : Dev) : Type 0 where
  pub size : D.size new ≡ D.size old
  pub disk : IsTrue D.keeps_model → D.disk new ≡ D.disk old
  pub count : D.refused new ≡ counted result (D.refused old)
