use Rattle.std.proofs.Common.{◌∙◌, List, map, subst}
use Rattle.std.specs.Prelude.{IfSome, Option}
use Rattle.std.specs.List.Sorted.{IsPermutation}
use Rattle.base.specs.declared.range.ObjectRange.{ObjectRange}
use Rattle.transactions.specs.LockRanges.{shape_range}
use Rattle.transactions.proofs.RangeIndexes.{kept_overlap}
use Rattle.transactions.proofs.indexed.IndexedTransaction.blocks.Goals as goal

pub returns-in-Some : goal.returns-in-Some
returns-in-Some c =
    let same = subst (λ (o : Option (List ObjectRange)). IfSome o (λ i. IsPermutation (map shape_range c.self.inside.transaction.plan) i)) c.in-Some.is c.self.invariant in
    rw (← c.self.view_is) (c.overlaps_any.ensures ∙ kept_overlap c.self.inside.transaction.plan c.in-Some.index same c.args.plan.now)
