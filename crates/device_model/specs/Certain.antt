-- Bytes that each crash leaves.
use Rattle.std.specs.Prelude.{◌≡◌, ℕ, List, length}
use Rattle.base.specs.formats.Fields.{part}
use Rattle.base.specs.disk.Disk.{Moment, bytes_of, IsTouched, IsInRange}

-- at this moment a read gives these bytes at this place, and no unflushed write touches them
pub record IsCertain (place : ℕ) (content : List ℕ) (m : Moment) : Type 0 where
  pub reads : part (bytes_of m) place (length content) ≡ content
  pub untouched : (i : ℕ) → IsInRange place (length content) i → IsTouched m.unflushed i → ⊥
