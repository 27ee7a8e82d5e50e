-- Which blocks an import takes, over an image with this active uberblock and chain.
use Rattle.std.specs.Prelude.{ℕ, ◌≡◌, ◌↔◌, true, List, length, map, take}
use Rattle.std.specs.Ordering.{nat_cmp}
use Rattle.std.specs.FinSet as set
use Rattle.std.specs.FinSet.{FinSet}
use Rattle.base.specs.common.Rising.{rising}
use Rattle.base.specs.tree.Mount.{IsFound, IsUsed, records_above}
use Rattle.base.specs.declared.pointer.Pointer.{Pointer}
use Rattle.base.specs.formats.Chain.{LogPiece}
use Rattle.base.specs.formats.Geometry.{IsBlockAddress, block_count}
use Rattle.base.specs.formats.Uberblocks.{Uberblock}
use Rattle.base.specs.history.Contents.{Contents}
use Rattle.base.specs.tree.Places.{Place, has_block}
use Rattle.base.specs.tree.Syncs.{written_places}
use Rattle.import_replay.specs.PlacedRecords.{ops_of_placed}

-- a spare address: that of a block of the area that neither the tree nor the chain has
abbrev pub IsSpare : List ℕ → Uberblock → List LogPiece → ℕ → Type 0
IsSpare image u chain address = IsBlockAddress (block_count (length image)) address × (IsUsed image u.root chain address → ⊥)

-- these are the lowest spare addresses, rising
pub record AreLowestSpare (image : List ℕ) (u : Uberblock) (chain : List LogPiece) (addresses : List ℕ) : Type 0 where
  pub spare : FinSet nat_cmp
  pub each : (address : ℕ) → (set.contains spare address ≡ true) ↔ IsSpare image u chain address
  pub lowest : addresses ≡ take (length addresses) (rising spare)

-- the places that the operations of the chain's records above the group write, in the order of a sync, over these
-- contents of the image's tree
abbrev pub replayed_places : List ℕ → Uberblock → List LogPiece → Contents → List Place
replayed_places image u chain synced = written_places (ops_of_placed (records_above u.group chain)) synced (has_block image u.root)

-- these are the addresses that a tree has at these places, one for each, in their order
pub record AreForEachPlace (image : List ℕ) (u : Uberblock) (chain : List LogPiece) (pointers : Place → Pointer) (addresses : List ℕ) : Type 0 where
  pub synced : Contents
  pub found : IsFound image u synced chain
  pub each : map (λ (place : Place). (pointers place).address) (replayed_places image u chain synced) ≡ addresses
