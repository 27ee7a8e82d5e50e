-- What a check of a pool finds and when it is refused, and what a command that only reads leaves of a device.
use Rattle.std.specs.Prelude.{ℕ, ◌≡◌, ◌⊎◌, IsTrue, List, Result, Ok, Err}
use Rattle.base.specs.declared.error.PoolError.{PoolError}
use Rattle.base.specs.declared.error.PoolError.TheVariants as refusal
use Rattle.base.specs.declared.error.PoolError.TheVariants.{BadGeometry, NoMemory, Read}
use Rattle.base.specs.disk.Calls.{with_refusal}
use Rattle.base.specs.formats.Geometry.{IsGeometry}
use Rattle.base.specs.tree.Mount.{HasNoPool, IsChainDamaged, IsMounted, Mount, MountsTo}
use Rattle.base.specs.history.Contents.{Contents}
use Rattle.device_model.specs.declared.device.SectorDevice.{Ghosts}
use Rattle.file_devices.specs.declared.held_file.FileRefusal.{FileRefusal}
use Rattle.import_replay.specs.ImportRefusals.{IsDamagedWith}
use Rattle.inspections.specs.declared.inspection.Inspected.{Inspected}
use Rattle.read_commands.specs.declared.checks.Finding.{Finding}
use Rattle.read_commands.specs.declared.checks.Finding.TheVariants.{Clean, Damaged, NoPool}

-- the image mounts this group, with so many records of its log chain above it
abbrev pub MountsClean : List ℕ → ℕ → ℕ → Type 0
MountsClean image group records = (m : Mount) × IsMounted image m × (m.group ≡ group) × (m.records ≡ records)

-- the image mounts some contents, so no block of its tree or chain is damaged
abbrev pub MountsWhole : List ℕ → Type 0
MountsWhole image = (contents : Contents) × MountsTo image contents

-- what a check found is so of the image: what it mounts, the first damage of its tree or chain, or that it has no pool
abbrev pub IsFoundIn : List ℕ → Finding → Type 0
IsFoundIn image (Clean group records) = MountsClean image group.0 records
IsFoundIn image (Damaged kind address) = IsDamagedWith (IsChainDamaged image) image kind address
IsFoundIn image NoPool = HasNoPool image

-- what a check makes of an inspection
abbrev pub found_of : Result Inspected PoolError → Result Finding PoolError
found_of (Ok i) = Ok (Clean i.group i.records)
found_of (Err (refusal.Damaged kind address)) = Ok (Damaged kind address)
found_of (Err refusal.NoPool) = Ok NoPool
found_of (Err e) = Err e

-- a check of a device of so many bytes is refused: for its size, for memory, or for a read
abbrev pub IsCheckRefusal : ℕ → PoolError → Type 0
IsCheckRefusal size BadGeometry = IsGeometry size → ⊥
IsCheckRefusal size NoMemory = IsGeometry size
IsCheckRefusal size Read = IsGeometry size
IsCheckRefusal size _ = ⊥

-- a device was only read: it is as it was, and it refused no call, or one read
pub record IsOnlyRead {Dev : Type 0} (D : Ghosts Dev) (old new : Dev) : Type 0 where
  pub size : D.size new ≡ D.size old
  pub disk : IsTrue D.keeps_model → D.disk new ≡ D.disk old
  pub refused : (D.refused new ≡ D.refused old) ⊎ (D.refused new ≡ with_refusal Read (D.refused old))

-- what was opened as a device stays one and was only read, and why a file was not opened stays
abbrev pub StaysOpened : {Dev : Type 0} → Ghosts Dev → Result Dev FileRefusal → Result Dev FileRefusal → Type 0
StaysOpened D (Ok old) (Ok new) = IsOnlyRead D old new
StaysOpened D (Ok old) (Err e) = ⊥
StaysOpened D (Err e) new = new ≡ Err e

-- the exit status of a check
abbrev pub finding_status : Finding → ℕ
finding_status (Clean group records) = 0
finding_status (Damaged kind address) = 1
finding_status NoPool = 1
