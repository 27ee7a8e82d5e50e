use Rattle.std.proofs.Common.{drop}
use Rattle.base.specs.formats.Fields.{number_at}
use Rattle.checked_blocks.proofs.SealedBlocks.{IsBlock-sealed_block, IsExpected-block}
use Rattle.checked_blocks.proofs.laws.opened_blocks_are_sealed.Goals as goal

pub returns : goal.returns
returns c = λ bytes e long each expected.
    IsBlock-sealed_block bytes e.kind e.guid (number_at bytes 16) e.number (drop 64 bytes) each (IsExpected-block bytes e long expected)
