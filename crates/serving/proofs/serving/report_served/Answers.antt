use Rattle.std.proofs.Common.{sym, ◌∙◌}
use Rattle.serving.proofs.ServedPools.{fails}
use Rattle.serving.proofs.serving.report_served.Goals as goal

pub returns-in-Err-clause-done : goal.returns-in-Err-clause-done
returns-in-Err-clause-done g c = λ zero. absurd (fails c.in-Err.failure (sym c.report_failure.ensures.status ∙ zero))
