use Rattle.std.proofs.Common.{◌+◌, ◌&&◌, ap, ◌∙◌}
use Rattle.space.specs.FreeSets.{is_free}
use Rattle.space_maps.proofs.TakenBlocks.{takes_none, takes_next}
use Rattle.space_maps.proofs.reading.take_used.Goals as goal

pub loop-k-init : goal.loop-k-init
loop-k-init c = takes_none c.args.first c.args.payload.now c.args.free.now

pub loop-k-preserved : goal.loop-k-preserved
loop-k-preserved c =
    let l = c.loop-k in
    takes_next c.args.first l.k c.args.payload.now c.args.free.now l.free c.take_unless.new.free l.invariant
    (c.take_unless.ensures.here ∙ ap (λ b. is_free (c.args.first + l.k) l.free && b) c.bit_in.ensures) c.take_unless.ensures.others c.take_unless.ensures.rest
