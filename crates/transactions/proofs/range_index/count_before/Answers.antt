use Rattle.std.proofs.Common.{rules}
use Rattle.std.proofs.lemmas.List.Sorted.{IsPartitionPoint-from_clause}
use Rattle.transactions.specs.RangeIndexes.{begins_before}
use Rattle.transactions.proofs.RangeIndexes.{begun_first}
use Rattle.transactions.proofs.range_index.count_before.Goals as goal

pub returns-clause-point : goal.returns-clause-point
returns-clause-point c =
    let ranges = c.args.ranges.now in
    let first = begun_first ranges c.args.object.0 c.args.place c.requires in
    IsPartitionPoint-from_clause (begins_before c.args.object.0 c.args.place) ranges c.partition_point.result c.partition_point.ensures.partitioned first (λ a r f' k. search rules)
