use Rattle.std.proofs.Common.{ap, inl, inr, ◌∙◌}
use Rattle.std.specs.Prelude.{Err}
use Rattle.std.proofs.lemmas.Result.{err_from_is_err_and}
use Rattle.pool_core.proofs.state.PoolState.sync_closed_group.Goals as goal

pub returns-in_err-make : goal.returns-in_err-make
returns-in_err-make g c =
    let p = err_from_is_err_and c.from_residual.result c.from_residual.ensures.1 in
    (c.make.result, c.make.new.state, c.make.ensures, inl (c.in_err-make.field-0.0, c.in_err-make.ensures, p.1 ∙ ap (λ e. Err e) p.2))

pub returns : goal.returns
returns g c = (c.make.result, c.make.new.state, c.make.ensures, inr (c.in_ok-make.field-0, c.make-2.new.state, c.in_ok-make.ensures, c.end_sync.ensures))
