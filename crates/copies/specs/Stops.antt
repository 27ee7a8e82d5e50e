-- Why a copy ended before its end, and what it leaves of the old pool's device and of the new pool's handle.
use Rattle.std.specs.Prelude.{ℕ, ◌≡◌, ◌⊎◌, Bool, IsTrue, false, true}
use Rattle.base.specs.declared.error.PoolError.TheVariants.{Damaged}
use Rattle.base.specs.disk.Disk.{Disk, bytes_of}
use Rattle.device_model.specs.declared.device.SectorDevice.{Ghosts}
use Rattle.pool_threads.specs.declared.handle.Handle.{Handle}
use Rattle.pool_threads.specs.Handles.{StaysInPool}
use Rattle.trees.specs.declared.damages.BlockDamage.{BlockDamage}
use Rattle.word_lock.specs.Seats.{HasMetNone}
use Rattle.copies.specs.ReadRecords.{MountsNone}
use Rattle.copies.specs.declared.stop.Stop.{Stop}
use Rattle.copies.specs.declared.stop.Stop.TheVariants.{New, Old, Unwritten}

-- If it ended for a damage it doesn't pass over damages, and nothing mounts the old pool's image. If a line wasn't written
-- it passes over them, and nothing mounts it either.
abbrev pub IsStopOf : Bool → Disk → Bool → Stop → Type 0
IsStopOf keeps disk skips (Old e) = (kind address : ℕ) → e ≡ Damaged kind address → (skips ≡ false) × (IsTrue keeps → MountsNone (bytes_of disk.now))
IsStopOf keeps disk skips (New e) = Unit {0}
IsStopOf keeps disk skips Unwritten = (skips ≡ true) × (IsTrue keeps → MountsNone (bytes_of disk.now))

-- the block of this damage is not passed over; or it is, and its line can't be written
abbrev pub IsStopFor : BlockDamage → Bool → Stop → Type 0
IsStopFor d skips stop = ((skips ≡ false) × (stop ≡ Old (Damaged d.kind d.address))) ⊎ ((skips ≡ true) × (stop ≡ Unwritten))

-- the handle stays in its pool and meets no other
pub record StaysAlone {Dev : Type 0} {G : Ghosts Dev} (old new : Handle Dev G) : Type 0 where
  pub same_pool : StaysInPool old new
  pub met_none : HasMetNone old.seat new.seat
