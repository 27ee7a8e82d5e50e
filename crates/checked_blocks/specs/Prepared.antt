-- What is sealed of a block in the memory in which it was prepared.
use Rattle.std.specs.Prelude.{ℕ, List, ◌++◌, take, drop, replicate}
use Rattle.sha2.specs.Sha256.{sha256}
use Rattle.base.specs.formats.Blocks.{IsBlock, block_head_bytes, sealed_block}
use Rattle.checked_blocks.specs.declared.sealing.Prepared.{Prepared}

-- the sealed block of a prepared one
abbrev pub prepared_block : ℕ → ℕ → ℕ → Prepared → List ℕ
prepared_block kind guid group p = sealed_block kind guid group p.number (drop 64 p.bytes.value)

-- that block has the fields that it is sealed with, and the payload of the prepared one
abbrev pub IsPreparedBlock : ℕ → ℕ → ℕ → Prepared → Type 0
IsPreparedBlock kind guid group p = IsBlock (prepared_block kind guid group p) kind guid group p.number (drop 64 p.bytes.value)

-- bytes with the head of a block before their payload, and zeros in place of the check
abbrev pub headed_bytes : ℕ → ℕ → ℕ → ℕ → List ℕ → List ℕ
headed_bytes kind guid group number bytes = block_head_bytes kind guid group number ++ replicate 32 0 ++ drop 64 bytes

-- bytes with their digest in place of the check
abbrev pub with_digest : List ℕ → List ℕ
with_digest bytes = take 32 bytes ++ sha256 bytes ++ drop 64 bytes
