use Rattle.std.proofs.Common.{sym, subst}
use Rattle.pool_threads.specs.Views.{Explains}
use Rattle.pool_threads.proofs.pool.Pool.with_view.Goals as goal

pub with_source-requires : goal.with_source-requires
with_source-requires g c = subst (λ st. Explains st c.args.first.now.value) (sym c.in-Ok.ensures.boxed) c.requires.explained
