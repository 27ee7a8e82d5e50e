use Rattle.serving.proofs.ClientFrames.{both_answered}
use Rattle.serving.proofs.clients.answers.two_transactions_of_a_frame_are_made_in_order.Goals as goal

pub returns : goal.returns
returns g c = λ a b spelled.
    let x = c.answer_frame.ensures.answered in
    both_answered (record { 0 = 1 }) a b c.frames_agree.ensures c.args.bytes.now c.args.out.now.items c.answer_frame.new.out.items x.0 c.args.handle.now c.answer_frame.new.handle c.answer_frame.result spelled x.1 x.2
