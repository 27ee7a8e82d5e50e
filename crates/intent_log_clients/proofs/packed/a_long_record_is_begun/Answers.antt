use Rattle.std.proofs.Common.{map}
use Rattle.std.proofs.lemmas.Result.{IfOk-weaker}
use Rattle.records.specs.Records.{record_fields}
use Rattle.intent_log_clients.proofs.PackedBlocks.{begun_is}
use Rattle.intent_log_clients.proofs.packed.a_long_record_is_begun.Goals as goal

pub returns : goal.returns
returns c = IfOk-weaker c.pack.result _ _ (λ p is. begun_is c.args.place.now (map record_fields c.args.pending.now) p c.requires.long is) c.pack.ensures.packed
