use Rattle.std.proofs.Common.{subst}
use Rattle.pool_threads.specs.Handles.{view_seen}
use Rattle.pool_threads.specs.Views.{GrowsTo, SeenPool}
use Rattle.pool_threads_clients.proofs.handles.a_joined_handle_goes_on_from_what_both_saw.Goals as goal

pub returns-clause-other : goal.returns-clause-other
returns-clause-other g c = subst (λ (v : SeenPool). GrowsTo _ v (view_seen c.join.new.self)) c.split.ensures.other.seen c.join.ensures.other
