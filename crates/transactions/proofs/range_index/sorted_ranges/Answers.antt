use Rattle.std.proofs.Common.{◌≡◌, rules}
use Rattle.std.proofs.lemmas.Fn.{always_returns_same}
use Rattle.base.specs.declared.range.ObjectRange.{ObjectRange}
use Rattle.transactions.proofs.RangeIndexes.{sorted_in_order}
use Rattle.transactions.proofs.range_index.sorted_ranges.Goals as goal

pub returns-clause-order : goal.returns-clause-order
returns-clause-order c =
    sorted_in_order c.sort_unstable_by_key.new.self.items
    (c.sort_unstable_by_key.ensures.sorted (λ (x : ObjectRange). (x.object.0, x.range.low)) (always_returns_same _ (λ a r. r ≡ (a.0.now.object.0, a.0.now.range.low)) _ (λ a r f' k. search rules)))
