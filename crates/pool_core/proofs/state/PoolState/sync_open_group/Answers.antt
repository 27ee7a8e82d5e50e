use Rattle.std.proofs.Common.{ap, inl, inr, ◌∙◌}
use Rattle.std.specs.Prelude.{Err}
use Rattle.std.proofs.lemmas.Result.{err_from_is_err_and}
use Rattle.pool_core.proofs.state.PoolState.sync_open_group.Goals as goal

pub returns-in_err-sync_closed_group_if_any : goal.returns-in_err-sync_closed_group_if_any
returns-in_err-sync_closed_group_if_any g c =
    let p = err_from_is_err_and c.from_residual-in_err-sync_closed_group_if_any.result c.from_residual-in_err-sync_closed_group_if_any.ensures.1 in
    inr (tt, c.end_running_sync.new.self, c.in_ok-end_running_sync.ensures, inl (c.in_err-sync_closed_group_if_any.field-0.0, c.in_err-sync_closed_group_if_any.ensures, p.1 ∙ ap (λ e. Err e) p.2))

pub returns-in_err-make : goal.returns-in_err-make
returns-in_err-make g c =
    let p = err_from_is_err_and c.from_residual-in_err-make.result c.from_residual-in_err-make.ensures.1 in
    inr (tt, c.end_running_sync.new.self, c.in_ok-end_running_sync.ensures, inr (tt, c.sync_closed_group_if_any.new.self, c.in_ok-sync_closed_group_if_any.ensures, inl (c.in_err-make.field-0.0, c.in_err-make.ensures, p.1 ∙ ap (λ e. Err e) p.2)))

pub returns : goal.returns
returns g c = inr (tt, c.end_running_sync.new.self, c.in_ok-end_running_sync.ensures, inr (tt, c.sync_closed_group_if_any.new.self, c.in_ok-sync_closed_group_if_any.ensures, inr (c.in_ok-make.field-0, c.make.new.state, c.in_ok-make.ensures, c.sync_closed_group.ensures)))
