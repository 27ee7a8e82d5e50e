use Rattle.serving.proofs.ServedPools.{told}
use Rattle.serving.proofs.clients.a_file_that_cannot_be_used_is_told_by_a_frame.Goals as goal

pub returns : goal.returns
returns g c = told (λ k. k.0.now) (λ k. k.1.items) c.args.input.now c.args.output.items c.run_serve.result.0 c.run_serve.result.1 c.run_serve.ensures.served
