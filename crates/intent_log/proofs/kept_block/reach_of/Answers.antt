use Rattle.std.proofs.Common.{arith}
use Rattle.base.specs.declared.names.Receipt.{Receipt}
use Rattle.intent_log.proofs.Receipts.{between_more, highest_more}
use Rattle.intent_log.proofs.kept_block.reach_of.Goals as goal

pub loop-receipt-preserved : goal.loop-receipt-preserved
loop-receipt-preserved c =
    let before = c.loop-receipt in
    let receipts = c.args.receipts.now in
    let none : Receipt = record { ordinal = record { 0 = 0 }; group = record { 0 = 0 } } in
    record {
      highest = λ group.
          highest_more group before.receipt-index before.highest c.max-highest.result receipts none c.loop-receipt-test.true c.max-highest.ensures (before.invariant.highest group);
      between =
          between_more before.receipt-index before.first before.last c.min-first.result c.max-last.result receipts none c.loop-receipt-test.true c.min-first.ensures
          c.max-last.ensures before.invariant.between;
      rises = omega (arith, c.max-last.ensures, before.invariant.rises);
    }
