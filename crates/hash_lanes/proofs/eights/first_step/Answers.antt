use Rattle.std.proofs.Common.{refl, sym}
use Rattle.sha2.proofs.Schedule256.{rounds_first}
use Rattle.hash_lanes.specs.Lanes.{lane}
use Rattle.hash_lanes.proofs.Messages.{get_or-lane}
use Rattle.hash_lanes.proofs.eights.first_step.Goals as goal

pub returns : goal.returns
returns c = λ i b h low window held.
    let w = c.args.w.now in
    let t = c.args.t in
    let word = sym (get_or-lane i w t) in
    rounds_first b h (lane i w) (lane i c.args.v) t _ _ _ c.requires window held refl word (c.round.ensures i low)
