use Rattle.std.proofs.Common.{sym, subst}
use Rattle.pool_threads.specs.Views.{Explains}
use Rattle.pool_threads.proofs.Ends.{ends_in, line_grows}
use Rattle.pool_threads.proofs.shared.Shared.close_after.Goals as goal

pub returns-in-Some-clause-last : goal.returns-in-Some-clause-last
returns-in-Some-clause-last g c =
    let e = c.in-Some.ensures.last in
    record {
      last = e.0;
      ends = ends_in c.args.self c.into_inner.result e.0 (subst (λ st. Explains st e.0) (sym c.into_inner.ensures) e.1) (line_grows _ _ e.3.0 e.0 e.3.1);
      onward = e.2;
      history = e.3;
      alone = e.4;
    }
