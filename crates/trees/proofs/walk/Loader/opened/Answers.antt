use Rattle.std.proofs.Common.{arith}
use Rattle.trees.proofs.ReadAheads.{four_opened, one_opened}
use Rattle.trees.proofs.walk.Loader.opened.Goals as goal

pub returns : goal.returns
returns c = λ keeps image first second third fourth.
    let frame = c.args.self.now.frame.now in
    let judged = c.are_expected-a.ensures in
    four_opened keeps image frame c.then_some.result c.then_some-2.result c.then_some-3.result c.then_some-4.result
    (one_opened keeps image frame c.args.first c.expected_record.result c.expected_record.ensures (omega arith) first _ judged.first.0 c.then_some.result c.then_some.ensures)
    (one_opened keeps image frame c.args.second c.expected_record-2.result c.expected_record-2.ensures (omega arith) second _ judged.second.0 c.then_some-2.result c.then_some-2.ensures)
    (one_opened keeps image frame c.args.third c.expected_record-3.result c.expected_record-3.ensures (omega arith) third _ judged.third.0 c.then_some-3.result c.then_some-3.ensures)
    (one_opened keeps image frame c.args.fourth c.expected_record-4.result c.expected_record-4.ensures (omega arith) fourth _ judged.fourth.0 c.then_some-4.result c.then_some-4.ensures)
