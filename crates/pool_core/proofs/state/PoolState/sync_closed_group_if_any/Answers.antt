use Rattle.std.proofs.Common.{ap, inl, inr, refl, ◌∙◌, sym}
use Rattle.std.specs.Prelude.{Err, is_some}
use Rattle.pool_core.specs.States.{shown}
use Rattle.std.proofs.lemmas.Result.{err_from_is_err_and}
use Rattle.pool_core.proofs.GroupSyncs.{if_so, is_there}
use Rattle.pool_core.proofs.state.PoolState.sync_closed_group_if_any.Goals as goal

pub returns-in_err-sync_closed_group : goal.returns-in_err-sync_closed_group
returns-in_err-sync_closed_group g c =
    let p = err_from_is_err_and c.from_residual.result c.from_residual.ensures.1 in
    if_so _ _ c.from_residual.result _ _ (is_there _ (shown c.args.self.now).line.middle (ap (λ s. is_some s.middle) (sym c.status.ensures) ∙ sym c.is_some.ensures ∙ c.if-is_some.true)) (inl (c.in_err-sync_closed_group.field-0.0, c.in_err-sync_closed_group.ensures, p.1 ∙ ap (λ e. Err e) p.2))

pub returns-in_ok-sync_closed_group : goal.returns-in_ok-sync_closed_group
returns-in_ok-sync_closed_group g c = if_so _ _ _ _ _ (is_there _ (shown c.args.self.now).line.middle (ap (λ s. is_some s.middle) (sym c.status.ensures) ∙ sym c.is_some.ensures ∙ c.if-is_some.true)) (inr (c.in_ok-sync_closed_group.field-0, c.in_ok-sync_closed_group.ensures, refl))
