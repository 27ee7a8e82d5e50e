-- What the handle of a command commits, one transaction after another.
use Rattle.std.specs.Prelude.{ℕ, zero, suc, ◌≡◌, List, [], ◌∷◌, Ok, Err, Result}
use Rattle.base.specs.declared.error.PoolError.{PoolError}
use Rattle.base.specs.declared.names.Owner.{Owner}
use Rattle.base.specs.declared.names.Receipt.{Receipt}
use Rattle.base.specs.declared.operation.Op.{Op}
use Rattle.device_model.specs.declared.device.SectorDevice.{Ghosts}
use Rattle.pool_threads.specs.declared.handle.Handle.{Handle}
use Rattle.pool_threads.specs.Transacts.{TransactsOrLacks}

-- the owner of a command's transactions
abbrev pub command_owner : Owner
command_owner = record { 0 = 0 }

module _ {Dev : Type 0} {G : Ghosts Dev} where
  -- The handle made these transactions in order, up to the first that was refused: so many were committed, with this
  -- result. It did no more.
  abbrev pub MakesFirst : List (List Op) → ℕ → Result (Unit {0}) PoolError → Handle Dev G → Handle Dev G → Type 0
  MakesFirst [] count result old new = (count ≡ 0) × (result ≡ Ok tt) × (new ≡ old)
  MakesFirst (ops ∷ rest) zero result old new = (e : PoolError) × (result ≡ Err e) × TransactsOrLacks command_owner ops (Err e) old new
  MakesFirst (ops ∷ rest) (suc count) result old new = (receipt : Receipt) × (next : Handle Dev G) × TransactsOrLacks command_owner ops (Ok receipt) old next × MakesFirst rest count result next new
