use Rattle.std.proofs.Common.{sym, subst}
use Rattle.pool_threads.specs.Views.{Explains}
use Rattle.pool_threads.proofs.owned.OwnedPool.of_state.Goals as goal

pub new-requires : goal.new-requires
new-requires g c = subst (λ st. Explains st c.view_behind-first.result.value) (sym c.in-Ok.ensures.boxed) (subst (λ v. Explains c.args.state v) (sym c.view_behind-first.ensures) c.requires)
