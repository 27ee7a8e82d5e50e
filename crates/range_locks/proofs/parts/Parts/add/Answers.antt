use Rattle.std.proofs.Common.{ap, ◌∙◌, arith}
use Rattle.range_locks.specs.Parts.{stored_part, with_end}
use Rattle.range_locks.proofs.NumberParts.{refused}
use Rattle.range_locks.proofs.Recounts.{can_count}
use Rattle.range_locks.proofs.Updates.{with_end_covers, with_end_still, without_end-with_end}
use Rattle.range_locks.proofs.parts.Parts.add.Goals as goal

pub add_end-requires : goal.add_end-requires
add_end-requires c =
    let was = c.requires.counted in
    record { counts = was.counts; is = was.is; still = was.still; small = λ k. let small = was.small k in (omega (arith, small.0), omega (arith, small.1)) }

pub returns-in_err-add_end-clause-unchanged : goal.returns-in_err-add_end-clause-unchanged
returns-in_err-add_end-clause-unchanged c = refused c.from_residual.result _ (λ f is _. c.in_err-add_end.ensures.unchanged f is)

pub add_end-requires-2 : goal.add_end-requires-2
add_end-requires-2 c =
    let was = c.requires.counted in let low = c.args.range.low in
    record {
      counts = with_end low was.counts;
      is = c.in_ok-add_end.ensures.added was.counts was.is was.still;
      still = with_end_still low was.counts was.still;
      small = λ k. let covers = with_end_covers low was.counts k in let small = was.small k in (omega (arith, covers.3, small.0), omega (arith, covers.0, small.1));
    }

pub returns-in-Err-clause-unchanged : goal.returns-in-Err-clause-unchanged
returns-in-Err-clause-unchanged c = λ f is still k.
    let low = c.args.range.low in
    let gone = c.remove_end.ensures _ (c.in-Err.ensures.unchanged (with_end low f) (c.in_ok-add_end.ensures.added f is still)) in
    gone k ∙ ap stored_part (without_end-with_end low f k)

pub recount-requires-clause-counted : goal.recount-requires-clause-counted
recount-requires-clause-counted c = λ k from below.
    let was = c.requires.counted in let low = c.args.range.low in let high = c.args.range.high in
    let first = with_end_covers low was.counts k in let second = with_end_covers high (with_end low was.counts) k in let small = was.small k in
    rw c.of_grant.ensures (can_count c.add_end-2.new.self.table (with_end high (with_end low was.counts)) k c.args.id c.args.mode
    (c.in_default.ensures.added (with_end low was.counts) (c.in_ok-add_end.ensures.added was.counts was.is was.still) (with_end_still low was.counts was.still))
    (omega (arith, first.0, second.0, small.1)))

pub returns-clause-added : goal.returns-clause-added
returns-clause-added c = λ f is still.
    let low = c.args.range.low in
    rw (← c.of_grant.ensures) (c.recount.ensures _ (c.in_default.ensures.added (with_end low f) (c.in_ok-add_end.ensures.added f is still) (with_end_still low f still)))
