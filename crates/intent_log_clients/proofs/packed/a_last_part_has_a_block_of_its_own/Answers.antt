use Rattle.std.proofs.lemmas.Result.{IfOk-weaker}
use Rattle.records.specs.Records.{record_fields}
use Rattle.intent_log_clients.proofs.PackedBlocks.{rest_used}
use Rattle.intent_log_clients.proofs.packed.a_last_part_has_a_block_of_its_own.Goals as goal

pub returns : goal.returns
returns c = IfOk-weaker c.pack_next.result _ _ (λ b is. rest_used c.args.place.now c.args.log.now b (record_fields c.args.logged.now) c.requires.begun c.requires.size is) c.pack_next.ensures.packs
