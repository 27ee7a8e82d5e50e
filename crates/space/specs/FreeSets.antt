-- The free blocks of a pool, with what is reserved of them, and what each call makes of them.
use Rattle.std.specs.Prelude.{ℕ, ◌≡◌, refl, ◌+◌, ◌-◌, ◌/◌, ◌^◌, ◌<◌, ◌≤◌, ◌↔◌, IsTrue, Bool, true, false, List, [], ◌∷◌, filter, take, nat_le, nat_lt}
use Rattle.std.specs.Coded.{Coded, code_by, coded×, coded_ℕ}
use Rattle.std.specs.Ordering.{nat_cmp}
use Rattle.std.specs.FinSet as set
use Rattle.std.specs.FinSet.{FinSet}
use Rattle.base.specs.common.Rising.{rising}
use Rattle.base.specs.formats.Geometry.{block_address, block_area, block_size, IsBlockAddress}
use Rattle.base.specs.steps.Charges.{available_of}

-- how many blocks the area has, the addresses of the free ones, how many blocks the unsynced transactions have
-- reserved, and how many the syncing group has taken
pub record FreeSpace : Type 0 where
  pub blocks : ℕ
  pub free : FinSet nat_cmp
  pub reserved : ℕ
  pub taken : ℕ

-- it is stored as the tuple of its fields
abbrev pub space_code : Coded FreeSpace
space_code = code_by (ℕ × (FinSet nat_cmp × (ℕ × ℕ))) (coded× coded_ℕ (coded× (set.code coded_ℕ) (coded× coded_ℕ coded_ℕ)))
    (λ s. (s.blocks, (s.free, (s.reserved, s.taken)))) (λ p. record { blocks = p.0; free = p.1.0; reserved = p.1.1.0; taken = p.1.1.1 }) (λ _. refl)

-- the index of the block at an address
abbrev pub block_index : ℕ → ℕ
block_index address = (address - block_area) / block_size

-- the free addresses from the block of an index on, rising
unfoldable pub free_from : ℕ → FinSet nat_cmp → List ℕ
free_from first free = filter (λ (address : ℕ). nat_le first (block_index address)) (rising free)

-- the set has the addresses of so many blocks, and no others
abbrev pub HasAllOf : ℕ → FinSet nat_cmp → Type 0
HasAllOf blocks free = (address : ℕ) → IsTrue (set.contains free address) ↔ IsBlockAddress blocks address

-- each free address is that of a block
abbrev pub AreBlockAddresses : FreeSpace → Type 0
AreBlockAddresses s = (address : ℕ) → IsTrue (set.contains s.free address) → IsBlockAddress s.blocks address

-- a sync takes fewer blocks than this: no list has as many
abbrev pub most_taken : ℕ
most_taken = 2 ^ 63

-- nothing is reserved, and no group is syncing
pub record IsIdle (s : FreeSpace) : Type 0 where
  pub reserved : s.reserved ≡ 0
  pub taken : s.taken ≡ 0

abbrev pub is_free : ℕ → FreeSpace → Bool
is_free block s = set.contains s.free (block_address block)

-- none of the blocks of a range of indices is free
abbrev pub AreNotFree : ℕ → ℕ → FreeSpace → Type 0
AreNotFree low high s = (block : ℕ) → low ≤ block → block < high → is_free block s ≡ false

-- this block is free, and none below it
pub record IsLowestFree (s : FreeSpace) (block : ℕ) : Type 0 where
  pub within : block < s.blocks
  pub free : is_free block s ≡ true
  pub below : AreNotFree 0 block s
  pub first : take 1 (rising s.free) ≡ block_address block ∷ []

-- the free blocks that no unsynced transaction may still ask for
abbrev pub available_in : FreeSpace → ℕ
available_in s = available_of (set.len s.free) s.reserved s.taken

-- so many blocks, with those that are kept back, are more than are available
abbrev pub is_short : ℕ → ℕ → FreeSpace → Bool
is_short count kept_back s = nat_lt (available_in s) (count + kept_back)

abbrev pub after_take : ℕ → FreeSpace → FreeSpace
after_take block s = record s { free = set.remove s.free (block_address block) }

abbrev pub after_give : ℕ → FreeSpace → FreeSpace
after_give block s = record s { free = set.insert s.free (block_address block) }

abbrev pub after_reserve : ℕ → FreeSpace → FreeSpace
after_reserve count s = record s { reserved = s.reserved + count }

abbrev pub after_unreserve : ℕ → FreeSpace → FreeSpace
after_unreserve count s = record s { reserved = s.reserved - count }

-- the syncing group takes a block
abbrev pub after_sync_take : ℕ → FreeSpace → FreeSpace
after_sync_take block s = record s { free = set.remove s.free (block_address block); taken = s.taken + 1 }

-- the syncing group is synced, and what it had reserved is reserved no more
abbrev pub after_sync_end : ℕ → FreeSpace → FreeSpace
after_sync_end reserved s = record s { reserved = s.reserved - reserved; taken = 0 }
