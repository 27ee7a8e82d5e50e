use Rattle.std.proofs.Common.{◌≡◌, ◌++◌, subst}
use Rattle.frames.specs.Answers.{bytes_of_refused}
use Rattle.frames.specs.declared.error.FrameError.{FrameError}
use Rattle.serving.proofs.ClientFrames.{malformed, ok_with}
use Rattle.serving.proofs.clients.answers.a_malformed_frame_changes_nothing.Goals as goal

pub returns-clause-unchanged : goal.returns-clause-unchanged
returns-clause-unchanged g c =
    let a = c.answer_frame.ensures.answered in
    (malformed _ c.args.bytes.now a.0 c.args.handle.now c.answer_frame.new.handle c.requires a.1).unchanged

pub returns-clause-refused : goal.returns-clause-refused
returns-clause-refused g c =
    let a = c.answer_frame.ensures.answered in
    let refused = malformed _ c.args.bytes.now a.0 c.args.handle.now c.answer_frame.new.handle c.requires a.1 in
    ok_with {Q = (e : FrameError) × (c.answer_frame.new.out.items ≡ c.args.out.now.items ++ bytes_of_refused e)} c.answer_frame.result a.2
    (λ added. (refused.error, subst (λ answer. c.answer_frame.new.out.items ≡ c.args.out.now.items ++ answer) refused.answer_is added))
