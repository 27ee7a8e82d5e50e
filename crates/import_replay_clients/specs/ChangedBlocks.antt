-- Whether a block has the same bytes on two disks.
use Rattle.std.specs.Prelude.{ℕ, ◌≡◌}
use Rattle.base.specs.disk.Disk.{Disk, bytes_of}
use Rattle.base.specs.formats.Fields.{part}
use Rattle.base.specs.formats.Geometry.{block_address, block_size}

-- block k has the same bytes on both disks, or other ones
abbrev pub KeepsBlock : Disk → Disk → ℕ → Type 0
KeepsBlock old new k = part (bytes_of new.now) (block_address k) block_size ≡ part (bytes_of old.now) (block_address k) block_size

abbrev pub ChangesBlock : Disk → Disk → ℕ → Type 0
ChangesBlock old new k = KeepsBlock old new k → ⊥
