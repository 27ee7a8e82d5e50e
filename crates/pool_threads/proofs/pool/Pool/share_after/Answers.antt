use Rattle.std.proofs.Common.{◌∙◌, sym, subst}
use Rattle.pool_threads.proofs.Firsts.{if_err, if_ok, shows_mounted}
use Rattle.pool_threads.specs.Handles.{IsReadyToOpen, OpensBehind}
use Rattle.pool_threads.specs.Views.{Explains}
use Rattle.pool_threads.proofs.pool.Pool.share_after.Goals as goal

pub with_view-requires : goal.with_view-requires
with_view-requires g c = record { explained = subst (λ v. Explains c.state_behind-state.result v) (sym c.view_behind-first.ensures) c.state_behind-state.ensures.explains }

pub returns-clause-opened : goal.returns-clause-opened
returns-clause-opened g c =
    if_ok _ _ c.with_view.result c.with_view.ensures.opening
    (λ p is. subst (OpensBehind _ _ _) (sym (is ∙ c.view_behind-first.ensures)) c.state_behind-state.ensures.opens)

pub returns-clause-shown : goal.returns-clause-shown
returns-clause-shown g c =
    let ready = c.state_behind-state.ensures in
    if_ok _ _ c.with_view.result c.with_view.ensures.opening
    (λ p is. shows_mounted c.state_behind-state.result _ _ _ _ _ _ (is ∙ c.view_behind-first.ensures) ready.shown_is ready.cache_is ready.device_is)

pub returns-clause-told : goal.returns-clause-told
returns-clause-told g c = if_ok _ _ c.with_view.result c.with_view.ensures.told (λ p is. is ∙ c.of-opened.ensures)

pub returns-clause-refused : goal.returns-clause-refused
returns-clause-refused g c = if_err _ _ c.with_view.result c.with_view.ensures.refused (λ e given. given.0)

pub returns-clause-given_back : goal.returns-clause-given_back
returns-clause-given_back g c =
    if_err _ _ c.with_view.result c.with_view.ensures.refused
    (λ e given. subst (IsReadyToOpen _ _ _ _) (sym given.1) c.state_behind-state.ensures)
