use Rattle.serving.proofs.ServedPools.{all_answered}
use Rattle.serving.proofs.clients.a_serve_of_status_0_answered_all_of_its_input.Goals as goal

pub returns : goal.returns
returns g c = λ zero. all_answered g.D.SectorDevice c.args.device (record { file = _; dirty_max = 1048576; cache_blocks = 256; moment = 9 }) (λ k. k.0.now) (λ k. k.1.items) c.args.input.now c.args.output.items c.run_serve.result.1 c.run_serve.result.0 zero (c.run_serve.ensures.kept zero) c.run_serve.ensures.served
