use Rattle.std.proofs.Common.{◌∙◌, arith}
use Rattle.std.proofs.lemmas.Result.{IfOk-weaker}
use Rattle.intent_log_clients.proofs.PackedBlocks.{all_used}
use Rattle.intent_log_clients.proofs.packed.a_pending_record_fills_its_block.Goals as goal

pub returns : goal.returns
returns c =
    IfOk-weaker c.pack_next.result _ _ (λ b is. all_used c.args.place.now c.args.log.now b c.requires.begun (omega (arith, c.requires.one)) (omega (arith, c.requires.size)) is ∙ c.requires.size) c.pack_next.ensures.packs
