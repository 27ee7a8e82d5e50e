use Rattle.std.proofs.Common.{◌≡◌, length, subst, arith}
use Rattle.base.specs.steps.Logs.{log_after_flush}
use Rattle.intent_log.specs.Kept.{RunLog, log_shown, run_log, shown_blocks}
use Rattle.intent_log.proofs.KeptBlocks.{flushed_blocks}
use Rattle.intent_log.proofs.log.Log.flushed.Goals as goal

pub returns-clause-shown : goal.returns-clause-shown
returns-clause-shown c =
    let n = c.len-self-inside.result in
    let all : n ≡ length c.self.inside.blocks.items = omega (arith, c.len-self-inside.ensures) in
    let old = log_shown (run_log c.self.inside) in
    subst (λ (l : RunLog). record old { kept = shown_blocks n c.self.inside.blocks.items } ≡ log_after_flush (log_shown l)) c.self.view_is
    (λ k. record old { kept = flushed_blocks c.self.inside.flushed n c.self.inside.blocks.items all k })
