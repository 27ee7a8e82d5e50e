use Rattle.std.proofs.Common.{◌∙◌, List, map, subst}
use Rattle.std.specs.Prelude.{IfSome, Option}
use Rattle.std.specs.List.Sorted.{IsPermutation}
use Rattle.base.specs.history.Plans.{number_range}
use Rattle.base.specs.declared.range.ObjectRange.{ObjectRange}
use Rattle.transactions.specs.LockRanges.{shape_range}
use Rattle.transactions.proofs.RangeIndexes.{kept_within}
use Rattle.transactions.proofs.indexed.IndexedTransaction.lies_in.Goals as goal

pub returns-in-Some : goal.returns-in-Some
returns-in-Some c =
    let same = subst (λ (o : Option (List ObjectRange)). IfSome o (λ i. IsPermutation (map shape_range c.self.inside.transaction.plan) i)) c.in-Some.is c.self.invariant in
    rw (← c.self.view_is) (c.has_within.ensures ∙ kept_within c.self.inside.transaction.plan c.in-Some.index same (number_range c.args.range.now))
