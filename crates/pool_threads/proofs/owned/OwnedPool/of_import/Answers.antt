use Rattle.std.proofs.Common.{sym, subst}
use Rattle.pool_threads.proofs.Firsts.{if_err, if_ok, shows_mounted}
use Rattle.pool_threads.specs.Handles.{IsReadyToOpen, OpensBehind}
use Rattle.pool_threads.proofs.owned.OwnedPool.of_import.Goals as goal

pub of_state-requires : goal.of_state-requires
of_state-requires g c = c.state_behind.ensures.explains

pub returns-clause-opened : goal.returns-clause-opened
returns-clause-opened g c =
    if_ok _ _ c.of_state.result c.of_state.ensures.opening
    (λ p is. subst (OpensBehind _ _ _) (sym is) c.state_behind.ensures.opens)

pub returns-clause-shown : goal.returns-clause-shown
returns-clause-shown g c =
    let ready = c.state_behind.ensures in
    if_ok _ _ c.of_state.result c.of_state.ensures.opening
    (λ p is. shows_mounted c.state_behind.result _ _ _ _ _ _ is ready.shown_is ready.cache_is ready.device_is)

pub returns-clause-refused : goal.returns-clause-refused
returns-clause-refused g c = if_err _ _ c.of_state.result c.of_state.ensures.refused (λ e given. given.0)

pub returns-clause-given_back : goal.returns-clause-given_back
returns-clause-given_back g c =
    if_err _ _ c.of_state.result c.of_state.ensures.refused
    (λ e given. subst (IsReadyToOpen _ _ _ _) (sym given.1) c.state_behind.ensures)
