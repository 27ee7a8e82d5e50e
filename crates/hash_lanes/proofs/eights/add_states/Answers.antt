use Rattle.hash_lanes.proofs.Messages.{add_state-lane}
use Rattle.hash_lanes.proofs.eights.add_states.Goals as goal

pub returns : goal.returns
returns c = λ i h.
    add_state-lane i c.args.h.now c.args.v.now _ _ _ _ _ _ _ _ (c.add.ensures.lanes i h) (c.add-2.ensures.lanes i h)
    (c.add-3.ensures.lanes i h) (c.add-4.ensures.lanes i h) (c.add-5.ensures.lanes i h) (c.add-6.ensures.lanes i h)
    (c.add-7.ensures.lanes i h) (c.add-8.ensures.lanes i h)
