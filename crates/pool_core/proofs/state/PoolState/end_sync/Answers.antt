use Rattle.std.proofs.Common.{ap, refl, ◌∙◌}
use Rattle.std.specs.Prelude.{Err}
use Rattle.std.proofs.lemmas.Result.{err_from_is_err_and}
use Rattle.pool_core.proofs.GroupSyncs.{ended_by, goes_down, one_more, refused_by}
use Rattle.pool_core.proofs.state.PoolState.end_sync.Goals as goal

pub loop-group-init : goal.loop-group-init
loop-group-init g c = (0, refl)

pub returns-in_err-group : goal.returns-in_err-group
returns-in_err-group g c =
    let p = err_from_is_err_and c.from_residual.result c.from_residual.ensures.1 in
    refused_by _ c.loop-group.invariant.0 c.loop-group.invariant.1 (p.1 ∙ ap (λ e. Err e) p.2) c.in_err-group.ensures

pub returns-in-Synced : goal.returns-in-Synced
returns-in-Synced g c = ended_by c.loop-group.invariant.0 c.loop-group.invariant.1 c.in-Synced.is c.in_ok-group.ensures

pub loop-group-smaller : goal.loop-group-smaller
loop-group-smaller g c = goes_down c.in_ok-group.field-0 c.in_default.not-Synced c.in_ok-group.ensures

pub loop-group-preserved : goal.loop-group-preserved
loop-group-preserved g c = one_more c.in_ok-group.field-0 c.loop-group.invariant.0 c.loop-group.invariant.1 c.in_default.not-Synced c.in_ok-group.ensures
