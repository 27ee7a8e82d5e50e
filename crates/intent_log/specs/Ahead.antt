-- Log blocks that are sealed before their turn.
use Rattle.std.specs.Prelude.{ℕ, List, drop}
use Rattle.base.specs.formats.Blocks.{IsBlock}
use Rattle.checked_blocks.specs.declared.sealing.Prepared.{Prepared}
use Rattle.intent_log.specs.declared.chains.ChainHeader.{ChainHeader}
use Rattle.intent_log.specs.declared.packing.NewBlock.{NewBlock}

-- a block that waits for its turn: the place that it was sealed for, its bytes of records, and the block
pub record AheadBlock : Type 0 where
  pub place : NewBlock
  pub records : List ℕ
  pub block : List ℕ

-- the place with this header and this next address in the pool and the group of another one
abbrev pub place_beside : NewBlock → ChainHeader → ℕ → NewBlock
place_beside beside header next = record { guid = beside.guid; group = beside.group; header = header; next = next }

-- a prepared block was sealed as a log block in the pool and the group of a place
abbrev pub IsSealedAt : NewBlock → Prepared → List ℕ → Type 0
IsSealedAt place p block = IsBlock block 6 place.guid place.group.0 p.number (drop 64 p.bytes.value)
