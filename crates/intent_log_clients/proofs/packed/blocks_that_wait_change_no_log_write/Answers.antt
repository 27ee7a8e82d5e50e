use Rattle.std.proofs.Common.{subst, ◌∙◌, arith}
use Rattle.std.proofs.lemmas.Result.{IfOk-weaker}
use Rattle.intent_log.specs.Fillings.{IsNextBlock}
use Rattle.intent_log.specs.Kept.{RunLog}
use Rattle.intent_log_clients.proofs.PackedBlocks.{all_used, next_number}
use Rattle.intent_log_clients.proofs.packed.blocks_that_wait_change_no_log_write.Goals as goal

pub returns-clause-next : goal.returns-clause-next
returns-clause-next c = IfOk-weaker c.pack_next.result _ _ (λ b is. next_number c.args.place.now _ b is) c.pack_next.ensures.packs

pub returns-clause-used : goal.returns-clause-used
returns-clause-used c =
    IfOk-weaker c.pack_next.result _ _ (λ b is. all_used c.args.place.now c.args.log.now b c.requires.begun (omega (arith, c.requires.one)) (omega (arith, c.requires.size))
    (subst (λ (l : RunLog). IsNextBlock c.args.place.now l b) c.keep_ahead.ensures is) ∙ c.requires.size) c.pack_next.ensures.packs
