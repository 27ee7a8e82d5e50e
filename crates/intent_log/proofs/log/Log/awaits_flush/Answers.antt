use Rattle.std.proofs.Common.{◌≡◌, length, subst, arith}
use Rattle.std.specs.Prelude.{nat_lt}
use Rattle.base.specs.steps.Logs as logs
use Rattle.intent_log.specs.Kept.{RunLog, log_shown}
use Rattle.intent_log.proofs.KeptBlocks.{some_await}
use Rattle.intent_log.proofs.log.Log.awaits_flush.Goals as goal

pub returns : goal.returns
returns c =
    let all : c.len.result ≡ length c.self.inside.blocks.items = omega (arith, c.len.ensures) in
    subst (λ (l : RunLog). nat_lt c.self.inside.flushed c.len.result ≡ logs.awaits_flush (log_shown l)) c.self.view_is
    (some_await c.self.inside.flushed c.len.result c.self.inside.blocks.items all)
