-- The free blocks by a flag for each, and what the fields of a free set stand for.
use Rattle.std.specs.Prelude.{ℕ, ◌≡◌, ◌≤◌, ◌<◌, ◌+◌, ◌^◌, Bool, true, false, List, [], ◌∷◌, get_or, length}
use Rattle.std.specs.Ordering.{nat_cmp}
use Rattle.std.specs.FinSet as set
use Rattle.std.specs.FinSet.{FinSet}
use Rattle.base.specs.formats.Geometry.{block_address}
use Rattle.space.specs.FreeSets.{FreeSpace, most_taken}
use Rattle.space.specs.SetFlags.{AreClear}
use Rattle.space.specs.declared.free_set.FreeSet.TheInside.{Inside}

-- the addresses of the free ones of blocks from this index on
unfoldable pub addresses_from : ℕ → List Bool → List ℕ
addresses_from k [] = []
addresses_from k (true ∷ flags) = block_address k ∷ addresses_from (k + 1) flags
addresses_from k (false ∷ flags) = addresses_from (k + 1) flags

abbrev pub free_of : List Bool → FinSet nat_cmp
free_of flags = set.from_list (addresses_from 0 flags)

-- the hint is at the lowest free block, or after the last block where none is free
pub record IsHint (flags : List Bool) (hint : ℕ) : Type 0 where
  pub below : AreClear 0 hint flags
  pub free : hint < length flags → get_or flags hint false ≡ true

abbrev pub space_of : Inside → FreeSpace
space_of a = record { blocks = length a.flags; free = free_of a.flags; reserved = a.reserved; taken = a.taken }

-- the count and the hint are right, and a reservation that fits the available blocks fits beside the others
pub record HasRightCounts (a : Inside) : Type 0 where
  pub small : length a.flags < 2 ^ 63
  pub count : a.free ≡ set.len (free_of a.flags)
  pub hint : IsHint a.flags a.hint
  pub taken : a.taken ≤ most_taken
  pub reserved : a.reserved ≤ length a.flags + most_taken
