use Rattle.std.proofs.Common.{arith}
use Rattle.intent_log.proofs.Fillings.{last_part}
use Rattle.intent_log.proofs.begun.BegunRecord.is_at_last_part.Goals as goal

pub returns : goal.returns
returns c = last_part c.args.self.now c.saturating_sub.result (omega (arith, c.saturating_sub.ensures, c.len.ensures))
