use Rattle.std.proofs.Common.{refl, sym, ◌∙◌}
use Rattle.std.specs.Prelude.{Some}
use Rattle.serving.proofs.ServedPools.{fails, served, served_still, unserved}
use Rattle.serving.proofs.serving.serve_on.Goals as goal

pub returns-in-Err-clause-served : goal.returns-in-Err-clause-served
returns-in-Err-clause-served g c =
    unserved g.D.SectorDevice c.args.device c.args.arguments c.report_failure-status.result c.in-Err.failure (Some c.in-Err.device) _ _ c.in-Err.ensures.refused c.write_unopened.ensures refl
    (λ zero. fails c.in-Err.failure (sym c.report_failure-status.ensures.status ∙ zero))

pub returns-clause-served : goal.returns-clause-served
returns-clause-served g c =
    served g.D.SectorDevice c.args.device c.args.arguments c.report_served-status.result c.in-Ok.pool c.serve_pool-served.result.0 c.serve_pool-served.result.2 _ (λ k. record { input = g.I.Read.remaining k.0; output = g.O.Write.contents k.1 }) c.serve_pool-served.result.1
    c.in-Ok.ensures.opened c.report_served-status.ensures.done c.serve_pool-served.ensures.given_back c.serve_pool-served.ensures.served

pub returns-clause-still_held : goal.returns-clause-still_held
returns-clause-still_held g c =
    served_still g.D.SectorDevice c.args.device c.args.arguments c.in-Ok.pool c.serve_pool-served.result.2 c.in-Ok.ensures.opened c.serve_pool-served.ensures.closed
