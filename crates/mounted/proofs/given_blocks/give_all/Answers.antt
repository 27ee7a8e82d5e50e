use Rattle.std.proofs.Common.{◌<◌, ap, arith}
use Rattle.base.specs.formats.Geometry.{block_count}
use Rattle.space.specs.FreeSets.{FreeSpace}
use Rattle.base.proofs.formats.BlockTests.{block_of}
use Rattle.mounted.proofs.GivenBlocks.{given_more, none_given}
use Rattle.mounted.proofs.given_blocks.give_all.Goals as goal

pub loop-address-init : goal.loop-address-init
loop-address-init c = none_given c.args.free.now

pub block_index-requires : goal.block_index-requires
block_index-requires c =
    block_of (block_count c.args.geometry) _ (c.requires.placed c.loop-address.address-index _ c.loop-address-test.true)

pub loop-address-preserved : goal.loop-address-preserved
loop-address-preserved c =
    let so_far = c.loop-address.invariant in
    let low : c.block_index.result < c.loop-address.free.blocks = omega (arith, c.block_index.ensures.block, ap (λ (s : FreeSpace). s.blocks) so_far, c.requires.count) in
    given_more c.args.free.now c.loop-address.free c.give.new.self c.args.addresses.now
    c.loop-address.address-index c.block_index.result c.loop-address-test.true c.block_index.ensures.address so_far (c.give.ensures.given low)
