-- What the calls of a create leave of the bytes that no pool has.
use Rattle.std.specs.Prelude.{ℕ}
use Rattle.base.specs.disk.Disk.{Disk, EachMoment, IsTouched, Moment, SameOutside, bytes_of}
use Rattle.base.specs.formats.Geometry.{IsWritable}

-- a byte after the boot header of a label, or of the block area
abbrev pub IsPoolByte : ℕ → ℕ → Type 0
IsPoolByte size i = IsWritable size i 1

-- At this moment all bytes outside the region are those of the earlier one, and a crash may change none of them that it
-- could not change then.
pub record KeepsOutside (Region : ℕ → Type 0) (start m : Moment) : Type 0 where
  pub bytes : SameOutside Region (bytes_of start) (bytes_of m)
  pub touched : (i : ℕ) → (Region i → ⊥) → IsTouched m.unflushed i → IsTouched start.unflushed i

-- each moment from the old disk's to the new disk's keeps all bytes outside the labels' ends and the block area
abbrev pub WritesPoolBytes : ℕ → Disk → Disk → Type 0
WritesPoolBytes size old new = EachMoment (KeepsOutside (IsPoolByte size) old.now) old new
