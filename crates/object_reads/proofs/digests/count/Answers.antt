use Rattle.std.proofs.Common.{◌≡◌, true, false, refl, ap, ◌∙◌, arith}
use Rattle.base.specs.formats.Limits.{object_count}
use Rattle.object_reads.proofs.RisingObjects.{count_below, count_below-all, counted_next}
use Rattle.object_reads.proofs.digests.count.Goals as goal
use Rattle.object_reads.proofs.digests.count.Goals.{then-has, else-has}

pub loop-number-init : goal.loop-number-init
unfolding count_below
loop-number-init g c = record { counted = refl; few = omega arith }

pub loop-number-preserved : goal.loop-number-preserved
loop-number-preserved g c =
    let next = counted_next (g.O.ObjectSource.objects c.args.objects.now) c.loop-number.number c.loop-number.count c.if-has.count in
    let so_far = c.loop-number.invariant in
    elim c.if-has.branch [
      | then-has w ↦ record { counted = next true so_far.counted w.if-has.ensures w.count-is; few = omega (arith, w.count-is, so_far.few) }
      | else-has w ↦ record { counted = next false so_far.counted w.if-has.ensures (omega (arith, w.count-is)); few = omega (arith, w.count-is, so_far.few) }
    ]

pub returns : goal.returns
returns g c =
    let objects = g.O.ObjectSource.objects c.args.objects.now in
    let last : c.loop-number.number ≡ object_count = omega arith in
    c.loop-number.invariant.counted ∙ ap (count_below objects) last ∙ count_below-all objects c.requires
