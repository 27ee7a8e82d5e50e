-- The kept log blocks before a header, as they come back one after another.
use Rattle.std.proofs.Common.{◌≡◌, ℕ, true, List, [], ◌∷◌, ◌++◌, map, refl, ap, subst, ◌∙◌}
use Rattle.std.proofs.lemmas.Bool.{lt-leb, lt-ltb}
use Rattle.std.proofs.lemmas.List.Elements.{All-head, All-tail}
use Rattle.base.specs.formats.Chain.{Header}
use Rattle.base.specs.steps.Logs.{KeptBlock}
use Rattle.intent_log.specs.Kept.{IsFrontGiven}
use Rattle.base.specs.formats.Geometry.{AreBlocksOf, is_block_of}
use Rattle.pool_tables.specs.Areas.{addresses_before, blocks_from}

module _ (header : Header) (old new : List KeptBlock) (address : ℕ) (given : IsFrontGiven header old new address) where
  -- the one that comes back is the first of them
  pub addresses-given : addresses_before header old ≡ address ∷ addresses_before header new
  addresses-given = rw (given.front, given.address_is, lt-ltb given.block.number header.number given.below) refl

  -- those from the header on stay
  pub from-given : blocks_from header old ≡ blocks_from header new
  from-given = rw (given.front, lt-leb header.number given.block.number given.below) refl

  -- its address is that of a block, if all of the log are
  abbrev addresses : List KeptBlock → ℕ → List ℕ
  addresses kept next = map (λ (b : KeptBlock). b.address) kept ++ next ∷ []

  pub placed-given : (blocks next : ℕ) → AreBlocksOf blocks (addresses old next) → (is_block_of blocks address ≡ true) × AreBlocksOf blocks (addresses new next)
  placed-given blocks next all =
      let split : AreBlocksOf blocks (given.block.address ∷ addresses new next) = subst (λ (kept : List KeptBlock). AreBlocksOf blocks (addresses kept next)) given.front all in (
        ap (is_block_of blocks) given.address_is ∙ All-head (λ (a : ℕ). is_block_of blocks a ≡ true) given.block.address (addresses new next) split,
        All-tail (λ (a : ℕ). is_block_of blocks a ≡ true) given.block.address (addresses new next) split,
      )
