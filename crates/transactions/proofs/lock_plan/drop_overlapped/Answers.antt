use Rattle.std.proofs.Common.{rules}
use Rattle.std.proofs.lemmas.Fn.{filter_same}
use Rattle.transactions.proofs.lock_plan.drop_overlapped.Goals as goal

pub returns-clause-apart : goal.returns-clause-apart
returns-clause-apart c = filter_same _ _ _ (λ x b f' k. search rules) _ _ c.retain.ensures.filtered
