use Rattle.std.proofs.Common.{map}
use Rattle.std.proofs.lemmas.Result.{IfOk-weaker}
use Rattle.records.specs.Records.{record_fields}
use Rattle.intent_log.specs.Packing.{block_of, used_of}
use Rattle.intent_log_clients.proofs.PackedBlocks.{packed_holds, stands_packed}
use Rattle.intent_log_clients.proofs.packed.a_packed_block_is_read_back.Goals as goal

pub returns : goal.returns
returns c =
    let records = map record_fields c.args.pending.now in
    IfOk-weaker c.pack.result _ _ (λ p is. stands_packed c.args.place.now (block_of p) (used_of records p) (packed_holds c.args.place.now records p is)) c.pack.ensures.packed
