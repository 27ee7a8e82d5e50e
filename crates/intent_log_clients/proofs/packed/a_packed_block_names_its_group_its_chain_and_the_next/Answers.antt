use Rattle.std.proofs.Common.{map, ◌∙◌}
use Rattle.std.proofs.lemmas.Result.{IfOk-weaker}
use Rattle.records.specs.Records.{record_fields}
use Rattle.intent_log.specs.Packing.{block_of}
use Rattle.intent_log_clients.proofs.PackedBlocks.{number_behind, packed_holds}
use Rattle.intent_log_clients.proofs.packed.a_packed_block_names_its_group_its_chain_and_the_next.Goals as goal

pub returns-clause-group : goal.returns-clause-group
returns-clause-group c = IfOk-weaker c.pack.result _ _ (λ p is. (packed_holds c.args.place.now (map record_fields c.args.pending.now) p is).sealed.group_is) c.pack.ensures.packed

pub returns-clause-chain : goal.returns-clause-chain
returns-clause-chain c =
    IfOk-weaker c.pack.result _ _ (λ p is. let holds = packed_holds c.args.place.now (map record_fields c.args.pending.now) p is in
    number_behind (block_of p) holds.payload 0 holds.sealed.payload_is ∙ holds.fields.chain_is) c.pack.ensures.packed

pub returns-clause-next : goal.returns-clause-next
returns-clause-next c =
    IfOk-weaker c.pack.result _ _ (λ p is. let holds = packed_holds c.args.place.now (map record_fields c.args.pending.now) p is in
    number_behind (block_of p) holds.payload 8 holds.sealed.payload_is ∙ holds.fields.next_is) c.pack.ensures.packed
