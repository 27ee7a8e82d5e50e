-- What callers see of a device in memory.
use Rattle.std.specs.Prelude.{ℕ, ◌*◌, List, [], replicate}
use Rattle.base.specs.formats.Geometry.{sector_size}
use Rattle.base.specs.declared.piece.Piece.{Piece}
use Rattle.base.specs.disk.Disk.{Disk, certain}
use Rattle.base.specs.disk.Crashes.{crash_image}
use Rattle.base.specs.declared.refused.RefusedCalls.{RefusedCalls}

-- the disk, how many calls of each kind it refused, how many writes found no memory to be noted, and which call of each
-- kind from now fails (0: none will)
pub record MemState : Type 0 where
  pub disk : Disk
  pub refused : RefusedCalls
  pub unnoted : ℕ
  pub read_fails : ℕ
  pub write_fails : ℕ
  pub flush_fails : ℕ

-- so many zero bytes; it stays closed, since at a literal number it would compute to as many conses
unfoldable pub zeros : ℕ → List ℕ
zeros n = replicate n 0

-- nothing but zeros, and nothing written
abbrev pub blank : ℕ → Disk
blank sectors = record { now = record { flushed = zeros (sector_size * sectors); unflushed = []; kept = [] }; past = [] }

-- a new device
abbrev pub new_state : ℕ → MemState
new_state sectors = record { disk = blank sectors; refused = record { reads = 0; writes = 0; flushes = 0 }; unnoted = 0; read_fails = 0; write_fails = 0; flush_fails = 0 }

-- the device after a crash that leaves these pieces, with no plan to fail
abbrev pub after_crash : List Piece → MemState → MemState
after_crash pieces s = record {
  disk = certain (crash_image pieces s.disk.now) s.disk;
  refused = s.refused;
  unnoted = s.unnoted;
  read_fails = 0;
  write_fails = 0;
  flush_fails = 0;
}
