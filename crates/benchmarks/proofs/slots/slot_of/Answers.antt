use Rattle.std.proofs.Common.{arith, inr}
use Rattle.benchmarks.proofs.Halvings.{halved_more}
use Rattle.benchmarks.proofs.slots.slot_of.Goals as goal

pub loop-halvings-preserved : goal.loop-halvings-preserved
loop-halvings-preserved c =
    let rest = c.loop-halvings.rest in
    (halved_more c.args.time rest c.loop-halvings.halvings c.loop-halvings.invariant.0, inr (omega (arith, c.if-rest-lt32.false)))
