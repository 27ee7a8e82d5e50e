-- What an import makes of an image, and why it is refused.
use Rattle.std.specs.Prelude.{ℕ, ◌≡◌, ◌<◌, ◌⊎◌, ◌+◌, ◌||◌, ◌&&◌, Bool, true, false, List, [], length, nat_lt, nat_le, None}
use Rattle.std.specs.FinMap as finite
use Rattle.base.specs.formats.Limits.{first_group, last_number, object_count}
use Rattle.base.specs.history.Contents.{Contents, length_of}
use Rattle.base.specs.declared.pointer.Pointer.{Pointer}
use Rattle.base.specs.formats.Geometry.{block_count, IsBlockAddress}
use Rattle.base.specs.tree.Places.{IsInTree}
use Rattle.base.specs.formats.Uberblocks.{Uberblock}
use Rattle.base.specs.formats.Chain.{LogPiece}
use Rattle.base.specs.tree.Mount.{Mount, Mounts, IsUsed, records_above}
use Rattle.base.specs.steps.Shown.{Shown, length_at}

-- whether so many bytes may be the limit of what is dirty
abbrev pub is_dirty_max_allowed : ℕ → Bool
is_dirty_max_allowed dirty_max = nat_le 4096 dirty_max && nat_le dirty_max 1099511627776

-- whether so many tree blocks may be the most that stay in memory
abbrev pub is_cache_allowed : ℕ → Bool
is_cache_allowed count = nat_le 1 count && nat_le count 4096

-- whether an import accepts both limits
abbrev pub are_limits_allowed : (dirty_max cache_blocks : ℕ) → Bool
are_limits_allowed dirty_max cache_blocks = is_cache_allowed cache_blocks && is_dirty_max_allowed dirty_max

-- whether an import of this active group and import number would pass the last number
abbrev pub is_past_last : ℕ → ℕ → Bool
is_past_last group import_number = nat_lt last_number (group + 5) || nat_lt last_number (import_number + 1)

-- a pool as an import shows it, of this active uberblock, number of blocks and mounted contents
pub record IsImported (u : Uberblock) (blocks : ℕ) (contents : Contents) (dirty_max : ℕ) (s : Shown) : Type 0 where
  pub suspended : s.suspended ≡ false
  pub guid : s.guid ≡ u.guid
  pub blocks_are : s.blocks ≡ blocks
  pub import_number : s.import_number ≡ u.import_number + 1
  pub limit : s.dirty_max ≡ dirty_max
  pub locks : s.locks ≡ []
  pub next_lock : s.next_lock ≡ 0
  pub line : s.line ≡ record { synced = u.group + 4; syncing = None; middle = None; open_group = u.group + 5 }
  pub transactions : s.transactions ≡ []
  pub next_tx : s.next_tx ≡ 0
  pub contents_are : s.contents ≡ contents
  pub next_ordinal : s.next_ordinal ≡ 0
  pub dirty : (g : ℕ) → finite.get s.dirty g ≡ None
  pub reserved : (g : ℕ) → finite.get s.reserved g ≡ None
  pub unsynced : s.log.unsynced ≡ []
  pub begun : s.log.begun ≡ None
  pub pending : s.log.pending ≡ []
  pub kept : s.log.kept ≡ []
  pub log_number : s.log.next.number ≡ 0
  pub sync : s.sync ≡ None
  pub synced_are : s.synced_contents ≡ contents
  pub lengths : (n : ℕ) → n < object_count → length_at s.lengths n ≡ length_of contents n

-- the first log block is the lowest that neither the old tree and chain nor the new tree has
pub record IsFirstLogBlock (image : List ℕ) (u : Uberblock) (chain : List LogPiece) (now : List ℕ) (root : Pointer) (address : ℕ) : Type 0 where
  pub in_area : IsBlockAddress (block_count (length image)) address
  pub not_old : IsUsed image u.root chain address → ⊥
  pub not_new : IsInTree now root address → ⊥
  pub lowest : (other : ℕ) → other < address → IsBlockAddress (block_count (length image)) other → IsUsed image u.root chain other ⊎ IsInTree now root other

-- an import of an image that answers Ok and leaves these bytes: what it mounts, how many records it applied, and the
-- pool that it gives
pub record IsImportOf (image now : List ℕ) (dirty_max records : ℕ) (s : Shown) : Type 0 where
  pub u : Uberblock
  pub chain : List LogPiece
  pub contents : Contents
  pub mounts : Mounts image u chain contents
  pub records_are : length (records_above u.group chain) ≡ records
  pub limit_allowed : is_dirty_max_allowed dirty_max ≡ true
  pub within : is_past_last u.group u.import_number ≡ false
  pub log_block : IsFirstLogBlock image u chain now s.root s.log.next.address
  pub imported : IsImported u (block_count (length image)) contents dirty_max s

-- what a created pool mounts
pub record IsCreated (name : List ℕ) (guid blocks : ℕ) (m : Mount) : Type 0 where
  pub name_is : m.contents.name ≡ name
  pub objects : (n : ℕ) → finite.get m.contents.objects n ≡ None
  pub guid_is : m.guid ≡ guid
  pub group : m.group ≡ first_group
  pub import_number : m.import_number ≡ 0
  pub blocks_are : m.blocks ≡ blocks
  pub used : m.used ≡ 0
  pub records : m.records ≡ 0
