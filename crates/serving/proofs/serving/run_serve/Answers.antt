use Rattle.serving.proofs.ServedPools.{all_served}
use Rattle.serving.proofs.serving.run_serve.Goals as goal

pub returns-in-Ok-clause-served : goal.returns-in-Ok-clause-served
returns-in-Ok-clause-served g c =
    all_served g.D.SectorDevice c.in-Ok.device c.args.arguments c.serve_on-status.result.0 c.args.opened c.serve_on-status.result.2 _ (λ k. record { input = g.I.Read.remaining k.0; output = g.O.Write.contents k.1 }) c.serve_on-status.result.1
    c.in-Ok.is c.serve_on-status.ensures.served
