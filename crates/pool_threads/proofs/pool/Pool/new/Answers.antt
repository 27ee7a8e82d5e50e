use Rattle.std.proofs.Common.{sym, subst}
use Rattle.pool_threads.specs.Views.{Explains}
use Rattle.pool_threads.proofs.pool.Pool.new.Goals as goal

pub with_view-requires : goal.with_view-requires
with_view-requires g c = record { explained = subst (λ v. Explains c.args.state v) (sym c.first_view-first.ensures) c.requires.1 }
