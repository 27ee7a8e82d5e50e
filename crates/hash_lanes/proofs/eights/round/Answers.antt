use Rattle.hash_lanes.proofs.Messages.{round-lane}
use Rattle.hash_lanes.proofs.eights.round.Goals as goal

pub returns : goal.returns
returns c = λ i h.
    let first = c.temp1-first.ensures.lanes i h in
    let second = c.temp2-second.ensures.lanes i h in
    let top = c.add.ensures.lanes i h in
    let middle = c.add-2.ensures.lanes i h in
    round-lane i c.args.v c.args.k _ _ _ _ _ first second top middle
