use Rattle.std.proofs.Common.{arith}
use Rattle.pool_tables.proofs.FreeBlocks.{none_taken, taken_so_far, taken_more}
use Rattle.pool_tables.proofs.blocks.take_all.Goals as goal

pub loop-planned-init : goal.loop-planned-init
loop-planned-init c = none_taken c.args.free.now

pub take_for_sync-requires : goal.take_for_sync-requires
take_for_sync-requires c =
    let count = taken_so_far c.args.free.now c.loop-planned.free c.args.blocks.now c.loop-planned.planned-index c.loop-planned-test.true c.requires c.loop-planned.invariant in
    omega (arith, count, c.loop-planned-test.true)

pub loop-planned-preserved : goal.loop-planned-preserved
loop-planned-preserved c =
    taken_more c.args.free.now c.loop-planned.free c.take_for_sync.new.self c.args.blocks.now c.loop-planned.planned-index c.planned-item.result
    c.loop-planned-test.true c.planned-item.is c.loop-planned.invariant c.take_for_sync.ensures
