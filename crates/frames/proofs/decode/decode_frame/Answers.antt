use Rattle.std.proofs.Common.{sym, ◌∙◌, arith}
use Rattle.frames.proofs.FramesRead.{frame_takes, read_of_frame, refused_frame}
use Rattle.frames.proofs.Steps.{ok_is}
use Rattle.frames.proofs.decode.decode_frame.Goals as goal

pub returns-in-Ok-clause-spelled : goal.returns-in-Ok-clause-spelled
returns-in-Ok-clause-spelled c = frame_takes c.args.bytes.now c.in-Ok.requests.items (λ i. omega (arith, c.type_inv.bytes i)) c.in-Ok.ensures

pub returns-in-Ok-clause-again : goal.returns-in-Ok-clause-again
returns-in-Ok-clause-again c = λ requests is. ok_is c.in-Ok.requests.items requests (sym c.in-Ok.ensures ∙ read_of_frame c.args.bytes.now requests is)

pub returns-in-Err-clause-again : goal.returns-in-Err-clause-again
returns-in-Err-clause-again c = λ requests is. refused_frame c.in-Err.error c.args.bytes.now requests c.in-Err.ensures is
