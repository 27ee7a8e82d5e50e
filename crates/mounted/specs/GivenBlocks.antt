-- The free blocks once some have come back.
use Rattle.std.specs.Prelude.{ℕ, List}
use Rattle.std.specs.FinSet as set
use Rattle.space.specs.FreeSets.{FreeSpace}

-- these addresses are free once more
abbrev pub after_gives : List ℕ → FreeSpace → FreeSpace
after_gives addresses s = record s { free = set.union s.free (set.from_list addresses) }
