use Rattle.std.proofs.Common.{ltb, rules}
use Rattle.std.proofs.lemmas.List.Sorted.{IsPartitionPoint-from_clause, IsPartitionedBy-ltb}
use Rattle.intent_log.specs.declared.kept_block.KeptBlock as code
use Rattle.intent_log.proofs.Rising.{passed_below}
use Rattle.intent_log.proofs.log.first_to_reach.Goals as goal

pub returns : goal.returns
returns c =
    let blocks = c.args.blocks.now.items in
    let parted = IsPartitionedBy-ltb (λ (b : code.KeptBlock). b.last.0) blocks c.args.ordinal.0 c.requires in
    let point = IsPartitionPoint-from_clause (λ (b : code.KeptBlock). ltb b.last.0 c.args.ordinal.0) blocks c.partition_point.result c.partition_point.ensures.partitioned parted
    (λ a r q k. search rules) in
    passed_below c.args.ordinal.0 c.partition_point.result blocks point.0
