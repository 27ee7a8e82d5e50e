use Rattle.std.proofs.Common.{ap, inl, inr, refl, ◌∙◌, sym}
use Rattle.std.specs.Prelude.{Err, is_some}
use Rattle.pool_core.specs.States.{shown}
use Rattle.std.proofs.lemmas.Result.{err_from_is_err_and}
use Rattle.pool_core.proofs.GroupSyncs.{if_so, is_there}
use Rattle.pool_core.proofs.state.PoolState.end_running_sync.Goals as goal

pub returns-in_err-end_sync : goal.returns-in_err-end_sync
returns-in_err-end_sync g c =
    let p = err_from_is_err_and c.from_residual.result c.from_residual.ensures.1 in
    if_so _ _ c.from_residual.result _ _ (is_there _ (shown c.args.self.now).line.syncing (ap (λ s. is_some s.syncing) (sym c.status.ensures) ∙ sym c.is_some.ensures ∙ c.if-is_some.true)) (inl (c.in_err-end_sync.field-0.0, c.in_err-end_sync.ensures, p.1 ∙ ap (λ e. Err e) p.2))

pub returns-in_ok-end_sync : goal.returns-in_ok-end_sync
returns-in_ok-end_sync g c = if_so _ _ _ _ _ (is_there _ (shown c.args.self.now).line.syncing (ap (λ s. is_some s.syncing) (sym c.status.ensures) ∙ sym c.is_some.ensures ∙ c.if-is_some.true)) (inr (c.in_ok-end_sync.field-0, c.in_ok-end_sync.ensures, refl))
