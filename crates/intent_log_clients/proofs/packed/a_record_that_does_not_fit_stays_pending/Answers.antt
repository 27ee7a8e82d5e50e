use Rattle.std.proofs.Common.{map, ◌∙◌}
use Rattle.std.proofs.lemmas.List.{length-map}
use Rattle.std.proofs.lemmas.Result.{IfOk-weaker}
use Rattle.records.specs.Records.{record_fields}
use Rattle.intent_log_clients.proofs.PackedBlocks.{count_is, first_packed, short_of_first}
use Rattle.intent_log_clients.proofs.packed.a_record_that_does_not_fit_stays_pending.Goals as goal

pub returns : goal.returns
returns c =
    let records = map record_fields c.args.pending.now in
    IfOk-weaker c.pack.result _ _ (λ p is. count_is c.args.place.now records 1 p (short_of_first records c.requires.short)
    (λ count front. first_packed records count (length-map c.args.pending.now record_fields ∙ c.requires.two) c.requires.over front) is) c.pack.ensures.packed
