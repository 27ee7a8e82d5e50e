use Rattle.std.proofs.Common.{◌∙◌}
use Rattle.pool_threads.proofs.Firsts.{comes_back, explained_at_first, if_err, if_ok, shows_mounted}
use Rattle.pool_threads.proofs.pool.Pool.share.Goals as goal

pub new-requires : goal.new-requires
new-requires g c κs t = (t, explained_at_first c.new-state.result c.new-state.ensures.explained c.new-state.ensures.held)

pub returns-clause-shown : goal.returns-clause-shown
returns-clause-shown g c =
    if_ok _ _ c.new.result c.new.ensures.opening
    (λ p is. shows_mounted c.new-state.result _ _ _ _ _ _ is c.new-state.ensures.shown c.new-state.ensures.cache c.new-state.ensures.device)

pub returns-clause-told : goal.returns-clause-told
returns-clause-told g c = if_ok _ _ c.new.result c.new.ensures.told (λ p is. is ∙ c.of-opened.ensures)

pub returns-clause-refused : goal.returns-clause-refused
returns-clause-refused g c =
    if_err _ _ c.new.result c.new.ensures.refused
    (λ e given. comes_back c.new-state.result _ _ e c.new-state.ensures.device c.new-state.ensures.shown given)
