use Rattle.std.proofs.Common.{map, ◌∙◌, arith}
use Rattle.std.proofs.lemmas.List.{length-map}
use Rattle.std.proofs.lemmas.Result.{IfOk-weaker}
use Rattle.records.specs.Records.{record_fields}
use Rattle.intent_log_clients.proofs.PackedBlocks.{both_packed, count_is, short_of_total}
use Rattle.intent_log_clients.proofs.packed.two_records_of_4008_bytes_fill_a_block.Goals as goal

pub returns : goal.returns
returns c =
    let records = map record_fields c.args.pending.now in
    IfOk-weaker c.pack.result _ _ (λ p is. count_is c.args.place.now records 2 p (short_of_total records (omega (arith, c.requires.full)))
    (λ count front. both_packed records count (length-map c.args.pending.now record_fields ∙ c.requires.two) c.requires.full front) is) c.pack.ensures.packed
