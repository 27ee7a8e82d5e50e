use Rattle.serving.proofs.LeftClients.{answered_stays}
use Rattle.serving.proofs.clients.what_was_answered_is_found_after_a_crash.Goals as goal

pub returns : goal.returns
returns g c = λ zero keeps past was.
    answered_stays g.D.SectorDevice c.args.device _ _ _ keeps past was c.serve_on.result.1 c.serve_on.result.2 c.serve_on.result.0 zero (c.serve_on.ensures.kept zero) c.serve_on.ensures.served
