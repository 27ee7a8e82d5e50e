-- What a read of the block that a pointer names says, and why it is refused.
use Rattle.std.specs.Prelude.{ℕ, ◌≡◌, ◌≤◌, ◌⊎◌, Bool, IsTrue, List}
use Rattle.base.specs.declared.error.PoolError.{PoolError}
use Rattle.base.specs.declared.error.PoolError.TheVariants.{NoMemory, Read, Damaged}
use Rattle.base.specs.declared.pointer.Pointer.{Pointer}
use Rattle.base.specs.disk.Disk.{Disk, bytes_of}
use Rattle.base.specs.formats.Blocks.{Frame, Opens}
use Rattle.base.specs.formats.Geometry.{IsBlockAddress}

-- a device that keeps the model has this image now
abbrev pub Shows : Bool → Disk → List ℕ → Type 0
Shows keeps disk image = IsTrue keeps → bytes_of disk.now ≡ image

-- what holds of the image that the device has if it keeps the model, and of each image if it doesn't
abbrev pub OnImage : Bool → Disk → (List ℕ → Type 0) → Type 0
OnImage keeps disk P = (image : List ℕ) → Shows keeps disk image → P image

-- a block of the area may be where a pointer says, and be as old
abbrev pub IsReadable : Frame → Pointer → Type 0
IsReadable frame pointer = IsBlockAddress frame.blocks pointer.address × (pointer.birth ≤ frame.group)

-- why a load is refused: there is no memory, the device refused a read, or a block is damaged
abbrev pub IsLoadRefusal : PoolError → Type 0
IsLoadRefusal e = (e ≡ NoMemory) ⊎ ((e ≡ Read) ⊎ ((kind : ℕ) × (address : ℕ) × (e ≡ Damaged kind address)))

-- a Damaged tells the block that a pointer names, and the image does not have it there
abbrev pub TellsBlock : List ℕ → Frame → ℕ → ℕ → Pointer → PoolError → Type 0
TellsBlock image frame kind number pointer e = (k : ℕ) (address : ℕ) → e ≡ Damaged k address
    → (kind ≡ k) × ((pointer.address ≡ address) × ((payload : List ℕ) → Opens image frame kind number pointer payload → ⊥))
