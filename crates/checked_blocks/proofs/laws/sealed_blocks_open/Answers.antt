use Rattle.base.specs.formats.Blocks.{sealed_block}
use Rattle.checked_blocks.proofs.SealedBlocks.{sealed_block-is, block-IsExpected}
use Rattle.checked_blocks.proofs.laws.sealed_blocks_open.Goals as goal

pub returns : goal.returns
returns c = λ kind guid group number payload k u g n long.
    let is = sealed_block-is kind guid group number payload k u g n long in (
      is,
      λ e same_kind same_guid same_number same_group same_check.
          block-IsExpected (sealed_block kind guid group number payload) e kind guid group number payload is same_kind same_guid same_number same_group same_check,
    )
