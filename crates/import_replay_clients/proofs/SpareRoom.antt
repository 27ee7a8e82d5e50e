-- If no record is replayed, one spare block is room enough for an import.
use Rattle.std.proofs.Common.{◌≡◌, ◌≤◌, ℕ, List, [], length, subst, ◌∙◌, arith}
use Rattle.std.specs.Prelude.{true}
use Rattle.std.specs.FinSet as set
use Rattle.base.specs.formats.Chain.{LogPiece}
use Rattle.base.specs.formats.Geometry.{IsBlockAddress, block_count}
use Rattle.base.specs.formats.Uberblocks.{Uberblock}
use Rattle.base.specs.history.Contents.{Contents}
use Rattle.base.specs.tree.Places.{has_block}
use Rattle.base.specs.tree.Syncs.{written_places}
use Rattle.base.specs.tree.Mount.{IsChainOf, IsUsed, Mounts, Placed, frame_of, header_of, records_above}
use Rattle.base.proofs.crash.OneMount.{one-active, one-chain}
use Rattle.base.proofs.tree.Estimates.{syncs_fit}
use Rattle.space.proofs.Counts.{one_there}
use Rattle.import_replay.specs.ImportRefusals.{LacksImportRoom}
use Rattle.import_replay.specs.PlacedRecords.{ops_of_placed}

none_at_once : (spare places : ℕ) → 1 ≤ spare → spare ≤ places → places ≤ 0 → ⊥
none_at_once spare places some few none = omega (arith, some, few, none)

pub has_spare_room : (image : List ℕ) (u : Uberblock) (chain : List LogPiece) (contents : Contents) → Mounts image u chain contents → records_above u.group chain ≡ []
    → (address : ℕ) → IsBlockAddress (block_count (length image)) address → (IsUsed image u.root chain address → ⊥) → LacksImportRoom image → ⊥
has_spare_room image u chain contents mounts none address is unused full =
    none_at_once (set.len full.spare) places (one_there full.spare address there) few no_place
  where
    same_u : full.u ≡ u
    same_u = one-active image full.u u full.mounts.found.pool.active mounts.found.pool.active

    same_chain : full.chain ≡ chain
    same_chain = one-chain image (frame_of image u) u.import_number (header_of u) full.chain chain (subst (λ (v : Uberblock). IsChainOf image v full.chain) same_u full.mounts.found.chain_is) mounts.found.chain_is

    there : set.contains full.spare address ≡ true
    there = full.all address is (λ used. unused (subst (λ (v : Uberblock). IsUsed image v.root chain address) same_u (subst (λ (ps : List LogPiece). IsUsed image full.u.root ps address) same_chain used)))

    none_above : records_above full.u.group full.chain ≡ []
    none_above = (λ i. records_above (same_u i).group (same_chain i)) ∙ none

    places : ℕ
    places = length (written_places (ops_of_placed []) full.synced (has_block image full.u.root))

    few : set.len full.spare ≤ places
    few = subst (λ (ps : List Placed). set.len full.spare ≤ length (written_places (ops_of_placed ps) full.synced (has_block image full.u.root))) none_above full.few

    no_place : places ≤ 0
    no_place = syncs_fit (ops_of_placed []) full.synced (has_block image full.u.root)
