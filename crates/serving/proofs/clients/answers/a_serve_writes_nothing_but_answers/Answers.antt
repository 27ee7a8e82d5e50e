use Rattle.serving.proofs.ServedClients.{front_answered}
use Rattle.serving.proofs.clients.answers.a_serve_writes_nothing_but_answers.Goals as goal

pub returns : goal.returns
returns g c =
    let s = c.serve.ensures.served in
    let f = front_answered s.1 c.args.input.now.now c.serve.new.input.now c.args.output.now.output.items c.serve.new.output.output.items s.0 s.5 in
    (s.1, f.0, s.4.begins, f.1, f.2)
