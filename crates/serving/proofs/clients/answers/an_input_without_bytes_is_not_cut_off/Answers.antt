use Rattle.std.proofs.Common.{refl}
use Rattle.std.specs.Prelude.{Some}
use Rattle.serving.specs.Inputs.{EndsWell, Streams}
use Rattle.serving.specs.declared.inputs.Ending.TheVariants.{CutOff}
use Rattle.serving.proofs.ServedClients.{ended, not_cut_off}
use Rattle.serving.proofs.clients.answers.an_input_without_bytes_is_not_cut_off.Goals as goal

pub returns : goal.returns
returns g c = λ is.
    let s = c.serve.ensures.served in
    let old : Streams = record { input = Some c.args.input.now.now; output = g.S.AnswerSink.contents c.args.output.now } in
    let new : Streams = record { input = Some c.serve.new.input.now; output = g.S.AnswerSink.contents c.serve.new.output } in
    not_cut_off c.args.input.now.now s.1 old new c.requires refl s.4 (ended (λ e. EndsWell e s.1 old new) s.0 CutOff s.2 c.serve.result s.6 is s.5)
