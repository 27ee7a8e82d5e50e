-- The free blocks once a sync took some, and the kept log blocks before a header, which come back.
use Rattle.std.specs.Prelude.{ℕ, List, filter, length, map, nat_le, ◌+◌}
use Rattle.std.specs.FinSet as set
use Rattle.base.specs.formats.Chain.{Header}
use Rattle.base.specs.steps.Logs.{KeptBlock, blocks_before}
use Rattle.space.specs.FreeSets.{FreeSpace}

-- those at these addresses
abbrev pub after_sync_takes : List ℕ → FreeSpace → FreeSpace
after_sync_takes addresses s = record s { free = set.difference s.free (set.from_list addresses); taken = s.taken + length addresses }

-- the addresses of the kept log blocks before a header, and the blocks from it on
abbrev pub addresses_before : Header → List KeptBlock → List ℕ
addresses_before header kept = map (λ (b : KeptBlock). b.address) (blocks_before header kept)

abbrev pub blocks_from : Header → List KeptBlock → List KeptBlock
blocks_from header kept = filter (λ (b : KeptBlock). nat_le header.number b.number) kept
