use Rattle.std.proofs.Common.{◌≡◌, refl}
use Rattle.frames.specs.declared.error.FrameError.TheVariants.{NoMemory}
use Rattle.serving.proofs.ClientFrames.{err_with}
use Rattle.serving.proofs.clients.answers.a_frame_that_is_not_answered_was_not_made.Goals as goal

pub returns : goal.returns
returns g c = err_with (λ e. e ≡ NoMemory) (c.answer_frame.new.handle ≡ c.args.handle.now) c.answer_frame.result (c.answer_frame.ensures.none_made refl)
