use Rattle.serving.proofs.ClientFrames.{appended, durable_answers, ok_with}
use Rattle.serving.proofs.clients.answers.an_answer_of_a_durable_transaction_comes_after_its_flush.Goals as goal

pub returns : goal.returns
returns g c =
    let a = c.answer_frame.ensures.answered in
    ok_with c.answer_frame.result a.2 (appended c.args.out.now.items c.answer_frame.new.out.items a.0 _ (durable_answers _ c.args.bytes.now a.0 c.args.handle.now c.answer_frame.new.handle a.1))
