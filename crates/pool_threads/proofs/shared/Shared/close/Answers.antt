use Rattle.std.proofs.Common.{sym, subst}
use Rattle.pool_threads.specs.Views.{Explains}
use Rattle.pool_threads.proofs.Ends.{ends_in}
use Rattle.pool_threads.proofs.shared.Shared.close.Goals as goal

pub returns-in-Some : goal.returns-in-Some
returns-in-Some g c =
    let e = c.in-Some.ensures in
    (e.0, ends_in c.args.self c.into_inner.result e.0 (subst (λ st. Explains st e.0) (sym c.into_inner.ensures) e.1) e.2)
