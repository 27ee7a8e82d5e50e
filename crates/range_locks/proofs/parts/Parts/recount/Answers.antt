use Rattle.std.proofs.Common.{◌<◌, ◌≤◌, ap, ◌∙◌, arith}
use Rattle.std.specs.Prelude.{is_some}
use Rattle.range_locks.proofs.Recounts.{counted_next}
use Rattle.range_locks.proofs.Updates.{others_stay}
use Rattle.range_locks.proofs.parts.Parts.recount.Goals as goal

pub loop-at-preserved : goal.loop-at-preserved
loop-at-preserved c =
    let kept = c.loop-at.invariant in
    let now = c.replace.new.self in
    let writes = c.replace.ensures in
    let from : c.args.range.low ≤ c.loop-at.offset = kept.0 in
    let at : c.loop-at.offset ≤ c.in-Some.at = c.in-Some.ensures.within.0 in
    let to : c.in-Some.at < c.args.range.high = c.in-Some.ensures.within.1 in (
      omega arith,
      omega arith,
      λ k after. others_stay c.loop-at.self.table now c.in-Some.at _ writes (ap is_some c.in-Some.ensures.part) k (λ same. omega arith) ∙ kept.2 k (omega arith),
      λ f is. counted_next c.args.range.low c.args.change c.loop-at.self.table now c.loop-at.offset c.in-Some.at c.in-Some.part c.recounted.result from at c.in-Some.ensures.before c.in-Some.ensures.part writes c.recounted.ensures f (kept.3 f is),
    )
