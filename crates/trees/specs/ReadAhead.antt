-- What was read ahead of a walk.
use Rattle.std.specs.Prelude.{ℕ, ◌≡◌, Bool, IsTrue, List, Option, Some, None, drop, get_or}
use Rattle.base.specs.formats.Blocks.{Frame, Opens}
use Rattle.base.specs.formats.Fields.{part}
use Rattle.base.specs.formats.Geometry.{IsBlockAddress, block_size}
use Rattle.object_maps.specs.BlockReads.{IsReadable}
use Rattle.trees.specs.declared.read_ahead.ReadAhead.{ReadAhead}
use Rattle.trees.specs.declared.read_ahead.ReadRecord.{ReadRecord}

-- a block was read from where its pointer says
abbrev pub IsRead : Bool → List ℕ → Frame → ReadRecord → Type 0
IsRead keeps image frame read =
    IsReadable frame read.pointer × (IsTrue keeps → read.block ≡ part image read.pointer.address block_size)

-- and it is the one that its pointer names, a data block of this number
abbrev pub IsReadRecord : Bool → List ℕ → Frame → ReadRecord → Type 0
IsReadRecord keeps image frame read =
    IsBlockAddress frame.blocks read.pointer.address
    × (IsTrue keeps → Opens image frame 5 read.number read.pointer (drop 64 read.block))

-- each of these that is there is
abbrev pub AreReadRecords : Bool → List ℕ → Frame → List (Option ReadRecord) → Type 0
AreReadRecords keeps image frame records = (i : ℕ) (read : ReadRecord) → get_or records i None ≡ Some read → IsReadRecord keeps image frame read

-- and each that was read ahead
abbrev pub IsReadAhead : Bool → List ℕ → Frame → ReadAhead → Type 0
IsReadAhead keeps image frame ahead = AreReadRecords keeps image frame ahead.records
