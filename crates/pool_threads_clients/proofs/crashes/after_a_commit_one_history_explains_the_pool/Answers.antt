use Rattle.std.proofs.Common.{subst}
use Rattle.pool_threads.specs.Views.{CrashRule, IsFollowed}
use Rattle.pool_threads.proofs.SafeTurns.{stepped_explained}
use Rattle.pool_threads_clients.proofs.crashes.after_a_commit_one_history_explains_the_pool.Goals as goal

pub returns : goal.returns
returns g c = λ keeps created follows.
    let made = c.commit.ensures.made.made.made in
    stepped_explained _ _ _ _ _ created made keeps (subst (λ (r : CrashRule). IsFollowed r created) made.rule follows)
