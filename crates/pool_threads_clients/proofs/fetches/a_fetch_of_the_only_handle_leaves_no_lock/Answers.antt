use Rattle.std.proofs.Common.{ap}
use Rattle.std.proofs.Math.Logic.{∥∥₁_map}
use Rattle.base.specs.steps.Shown.{Shown}
use Rattle.pool_threads_clients.proofs.fetches.a_fetch_of_the_only_handle_leaves_no_lock.Goals as goal

pub returns-clause-locks : goal.returns-clause-locks
returns-clause-locks g c only = ∥∥₁_map (c.fetch.ensures.released only) (λ same. ap (λ (s : Shown). s.locks) same)

pub returns-clause-contents : goal.returns-clause-contents
returns-clause-contents g c only = ∥∥₁_map (c.fetch.ensures.released only) (λ same. ap (λ (s : Shown). s.contents) same)
