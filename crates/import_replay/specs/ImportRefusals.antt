-- When an import is refused.
use Rattle.std.specs.Prelude.{ℕ, ⊤, ◌≡◌, ◌≢◌, ◌≤◌, ◌⊎◌, Bool, true, false, List, length}
use Rattle.std.specs.Ordering.{nat_cmp}
use Rattle.std.specs.FinMap.{FinMap}
use Rattle.std.specs.FinSet as set
use Rattle.std.specs.FinSet.{FinSet}
use Rattle.base.specs.declared.error.PoolError.{PoolError}
use Rattle.base.specs.declared.error.PoolError.TheVariants.{NoMemory, Read, Write, Flush, NoPool, Damaged, BadGeometry, BadRange, NoSpace, TooMany}
use Rattle.base.specs.formats.Geometry.{IsBlockAddress, IsGeometry, block_count}
use Rattle.base.specs.formats.Chain.{LogPiece}
use Rattle.base.specs.formats.Uberblocks.{Uberblock}
use Rattle.base.specs.tree.Tree.{IsTree}
use Rattle.base.specs.tree.Mount.{HasNoPool, HasPool, IsChainDamaged, IsFound, IsTreeDamaged, IsUsed, Mounts, frame_of, records_above}
use Rattle.base.specs.kept.Imports.{is_dirty_max_allowed, is_past_last}
use Rattle.base.specs.kept.CrashRule.{IsOwnOnceFlushed}
use Rattle.base.specs.disk.Disk.{Disk}
use Rattle.base.specs.history.Contents.{Contents}
use Rattle.import_replay.specs.PlacedRecords.{placed_estimate}
use Rattle.import_replay.specs.TakenBlocks.{replayed_places}

-- an import of a device of so many bytes with this limit may begin
abbrev pub CanImport : ℕ → ℕ → Type 0
CanImport size dirty_max = IsGeometry size × (is_dirty_max_allowed dirty_max ≡ true)

-- while the labels are read there is no memory, a read is refused, or there is no pool
abbrev pub IsFindRefusal : PoolError → Type 0
IsFindRefusal e = (e ≡ NoMemory) ⊎ ((e ≡ Read) ⊎ (e ≡ NoPool))

-- while the tree is walked as well, a block may be damaged
abbrev pub IsWalkRefusal : PoolError → Type 0
IsWalkRefusal NoMemory = ⊤
IsWalkRefusal Read = ⊤
IsWalkRefusal NoPool = ⊤
IsWalkRefusal (Damaged kind address) = ⊤
IsWalkRefusal _ = ⊥

-- while the labels are written a write or a flush is refused
abbrev pub IsSyncRefusal : PoolError → Type 0
IsSyncRefusal e = (e ≡ Write) ⊎ (e ≡ Flush)

-- and before that there may be no memory, or no room
abbrev pub IsOpenRefusal : PoolError → Type 0
IsOpenRefusal e = (e ≡ NoMemory) ⊎ ((e ≡ NoSpace) ⊎ IsSyncRefusal e)

-- an import is refused after its first flush and before its first write
abbrev pub IsReadingRefusal : PoolError → Type 0
IsReadingRefusal NoMemory = ⊤
IsReadingRefusal Read = ⊤
IsReadingRefusal NoPool = ⊤
IsReadingRefusal (Damaged kind address) = ⊤
IsReadingRefusal TooMany = ⊤
IsReadingRefusal NoSpace = ⊤
IsReadingRefusal _ = ⊥

-- why an import that has begun is refused
abbrev pub IsMountRefusal : PoolError → Type 0
IsMountRefusal NoMemory = ⊤
IsMountRefusal Read = ⊤
IsMountRefusal Write = ⊤
IsMountRefusal Flush = ⊤
IsMountRefusal NoPool = ⊤
IsMountRefusal (Damaged kind address) = ⊤
IsMountRefusal TooMany = ⊤
IsMountRefusal NoSpace = ⊤
IsMountRefusal _ = ⊥

-- An import is refused: the size comes first, then whether the limits are allowed, both before any device call, and
-- then what the image and the device refuse.
abbrev pub IsImportRefusal : ℕ → Bool → PoolError → Type 0
IsImportRefusal size allowed BadGeometry = IsGeometry size → ⊥
IsImportRefusal size allowed BadRange = IsGeometry size × (allowed ≡ false)
IsImportRefusal size allowed e = (IsGeometry size × (allowed ≡ true)) × IsMountRefusal e

-- so it is by size or limits alone
abbrev pub IsBoundsRefusal : ℕ → Bool → PoolError → Type 0
IsBoundsRefusal size allowed e = ((e ≡ BadGeometry) ⊎ (e ≡ BadRange)) × IsImportRefusal size allowed e

-- the image has a pool with this active uberblock and name, and its tree has no damage
pub record HasSoundPool (image : List ℕ) (u : Uberblock) (name : List ℕ) : Type 0 where
  pub pool : HasPool image u name
  pub objects : FinMap nat_cmp (List ℕ)
  pub tree : IsTree image (frame_of image u) u.root objects

-- the image mounts contents, but the numbers of the active uberblock would pass the last one
pub record HasLastNumbers (image : List ℕ) : Type 0 where
  pub u : Uberblock
  pub chain : List LogPiece
  pub contents : Contents
  pub mounts : Mounts image u chain contents
  pub past_last : is_past_last u.group u.import_number ≡ true

-- The image mounts contents and the numbers fit, but the blocks that neither the tree nor the chain has are no more
-- than the places that the chain's records above the group write. So none is left for the log. Where there are no such
-- records, each block is in the tree or in the chain. The records are estimated at no fewer blocks.
pub record LacksImportRoom (image : List ℕ) : Type 0 where
  pub u : Uberblock
  pub chain : List LogPiece
  pub contents : Contents
  pub mounts : Mounts image u chain contents
  pub within : is_past_last u.group u.import_number ≡ false
  pub spare : FinSet nat_cmp
  pub all : (address : ℕ) → IsBlockAddress (block_count (length image)) address → (IsUsed image u.root chain address → ⊥) → set.contains spare address ≡ true
  pub synced : Contents
  pub found : IsFound image u synced chain
  pub few : set.len spare ≤ length (replayed_places image u chain synced)
  pub estimated : set.len spare ≤ placed_estimate (records_above u.group chain)

-- the tree of the image's pool has this first damage, or a log block of its chain, at this address, is refused
abbrev pub IsDamagedWith : (ℕ → Type 0) → List ℕ → ℕ → ℕ → Type 0
IsDamagedWith IsBlockRefused image kind address = IsTreeDamaged image kind address ⊎ ((kind ≡ 6) × IsBlockRefused address)

-- What a refusal says of the image, in the order in which they come: that there is no pool, that this is the first
-- damage of the active tree or a log block of its chain that is refused, that the numbers would pass the last one, or
-- that there is no room.
pub record IsReason (image : List ℕ) (e : PoolError) : Type 0 where
  pub no_pool : e ≡ NoPool → HasNoPool image
  pub damaged : (kind address : ℕ) → e ≡ Damaged kind address → IsDamagedWith (IsChainDamaged image) image kind address
  pub too_many : e ≡ TooMany → HasLastNumbers image
  pub no_space : e ≡ NoSpace → LacksImportRoom image

-- the refusal says neither that there is no pool, nor that a tree or a chain has a damage, nor that there is no room
pub record IsOfSoundPool (e : PoolError) : Type 0 where
  pub not_missing : e ≢ NoPool
  pub not_full : e ≢ NoSpace
  pub not_damaged : (kind address : ℕ) → e ≢ Damaged kind address

-- so it is where the disk is one that its pool alone wrote, once it is flushed
abbrev pub FindsOwn : Disk → PoolError → Type 0
FindsOwn disk e = (created guid : ℕ) (contents : Contents) → IsOwnOnceFlushed disk created guid contents → IsOfSoundPool e
