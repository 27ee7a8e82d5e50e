use Rattle.std.proofs.Common.{◌<◌, arith, length}
use Rattle.serving.specs.Inputs.{program}
use Rattle.serving.proofs.ClientFrames.{only_synced}
use Rattle.serving.proofs.clients.answers.a_frame_that_is_cut_off_is_not_made.Goals as goal

pub returns : goal.returns
returns g c = λ three.
    let s = c.serve.ensures.served in
    let short : length c.args.input.now.now < 4 = omega (arith, three) in
    (s.2, only_synced program c.args.input.now.now s.1 s.2 c.args.handle.now c.serve.new.handle short s.4 s.3)
