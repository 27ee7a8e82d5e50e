use Rattle.serving.specs.Inputs.{EndsWell, Streams}
use Rattle.std.specs.Prelude.{Some}
use Rattle.serving.specs.declared.inputs.Ending.TheVariants.{Done}
use Rattle.serving.proofs.ServedClients.{all_answered, ended}
use Rattle.serving.proofs.clients.answers.a_serve_that_ends_well_answered_all_of_its_input.Goals as goal

pub returns : goal.returns
returns g c = λ done.
    let s = c.serve.ensures.served in
    let old : Streams = record { input = Some c.args.input.now.now; output = Some c.args.output.now.output.items } in
    let new : Streams = record { input = Some c.serve.new.input.now; output = Some c.serve.new.output.output.items } in
    let a = all_answered s.1 c.args.input.now.now c.serve.new.input.now c.args.output.now.output.items c.serve.new.output.output.items (ended (λ e. EndsWell e s.1 old new) s.0 Done s.2 c.serve.result s.6 done s.5) in
    (s.1, a.0, a.1, a.2)
